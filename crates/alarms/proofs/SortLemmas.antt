-- The alarms in their order.
use Rattle.std.proofs.Common.{◌≡◌, ℕ, inl, inr, Bool, true, List, [], refl, rules, sym, subst}
use Rattle.std.specs.Prelude.{Contains}
use Rattle.std.specs.Cmp.{IsTotalOrder}
use Rattle.std.specs.Cmp.Rules.{comparing}
use Rattle.std.specs.List.{dedup}
use Rattle.std.specs.List.Sorted.{IsPermutation, IsSorted}
use Rattle.std.specs.Ordering.{eq_by_cmp, nat_cmp}
use Rattle.std.proofs.lemmas.Cmp.{eq_by_cmp_equiv}
use Rattle.std.proofs.lemmas.List.Kept.{Contains-dedup, Contains-from_dedup, IsStrictlySortedBy-dedup}
use Rattle.std.proofs.lemmas.List.Sorted.{Contains-permutation, IsPermutation-sym}
use Rattle.jam_base.specs.declared.edge.FunctionRef.{FunctionRef}
use Rattle.lock_reader.specs.declared.lock.LockEntry.{LockEntry}
use Rattle.advisory_reader.specs.declared.advisory.Advisory.{Advisory}
use Rattle.composer.specs.declared.application.Part.{Part}
use Rattle.composer.proofs.Members.{none}
use Rattle.composer.proofs.OrderLemmas.{both_equal, ranked_equal, tests_equal}
use Rattle.alarms.specs.Alarms.{AreAlarms, IsAlarm, found_order}
use Rattle.alarms.specs.Searching.{Adds}
use Rattle.alarms.specs.declared.found.Found.{Found}

pub found_total : IsTotalOrder found_order
found_total = search (comparing, rules) depth 12

-- the order tells alarms apart
one_found : (x y : Found) → eq_by_cmp found_order x y ≡ true → x ≡ y
one_found x y e =
    let a = both_equal (nat_cmp x.advisory y.advisory) _ (tests_equal (found_order x y) e) in
    let b = both_equal (nat_cmp x.entry y.entry) _ a.1 in
    let c = both_equal (nat_cmp x.function.module y.function.module) (nat_cmp x.function.function y.function.function) b.1 in
    let i = ranked_equal x.advisory y.advisory a.0 in
    let p = ranked_equal x.entry y.entry b.0 in
    let m = ranked_equal x.function.module y.function.module c.0 in
    let f = ranked_equal x.function.function y.function.function c.1 in
    λ k. record { advisory = i k; entry = p k; function = record { «module» = m k; function = f k } }

-- sorted and without repeats, what was found is the list of alarms
pub alarm_list : (entries : List LockEntry) (advisories : List Advisory) (parts : List Part) (reached : FunctionRef → Bool) (xs ys zs : List Found) → IsPermutation xs ys → IsSorted found_order ys
    → zs ≡ dedup (eq_by_cmp found_order) ys → Adds (IsAlarm entries advisories parts reached) [] xs → AreAlarms entries advisories parts reached zs
alarm_list entries advisories parts reached xs ys zs moved sorted is adds = rw is (record {
  sorted = IsStrictlySortedBy-dedup found_total (λ x y. refl) ys sorted;
  alarms_are = λ x. (
    λ h. elim (adds.found x (Contains-permutation ys xs x (IsPermutation-sym xs ys moved) (Contains-from_dedup (eq_by_cmp found_order) ys x h))) [ inl g ↦ absurd (none x g) | inr g ↦ g ],
    λ h. Contains-dedup (eq_by_cmp_equiv found_total) one_found ys x (Contains-permutation xs ys x moved (adds.all x h)),
  );
})

-- a test that agrees with the order leaves the same
pub same_dedup : (E : Found → Found → Bool) (ys : List Found) → ((x y : Found) → E x y ≡ eq_by_cmp found_order x y) → dedup E ys ≡ dedup (eq_by_cmp found_order) ys
same_dedup E ys ties = λ i. dedup (λ x y. ties x y i) ys
