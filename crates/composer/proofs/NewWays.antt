-- One more value at a vertex adds to all ways what it makes there.
use Rattle.std.proofs.Common.{◌≡◌, ◌≢◌, ℕ, zero, suc, ◌+◌, ◌*◌, ◌<◌, ◌≤◌, ◌⊎◌, inl, inr, Bool, true, false, cond, ◌||◌, List, [], ◌∷◌, ◌++◌, length, map, refl, ap, sym, ◌∙◌, subst, arith, Option, Some, None}
use Rattle.std.specs.Prelude.{Contains, flat_map, nat_eq, slice_get}
use Rattle.std.specs.List.{AllByRecursion, IsDistinct, sum_by}
use Rattle.std.proofs.lemmas.Bool.{cases_Bool, cases_eq, eq-eqb, eqb-true, ne_eqb}
use Rattle.std.proofs.lemmas.Bool.Decides.{eqb_tells}
use Rattle.std.proofs.lemmas.List.Sums.{sum_by-append, sum_by-cons, sum_by_push}
use Rattle.composer.proofs.Members.{there}
use Rattle.composer.proofs.RowLemmas.{apart, in_from_member}
use Rattle.composer.proofs.UseLemmas.{new_in, sum_cond, sum_flat, sum_same}
use Rattle.composer.proofs.WayLemmas.{native_has_none, none_is_native}
use Rattle.composer.specs.declared.system.Arrow.{Arrow}
use Rattle.composer.specs.declared.system.Callable.{Callable}
use Rattle.composer.specs.declared.system.CallSite.{CallSite}
use Rattle.composer.specs.declared.system.System.{System}
use Rattle.composer.specs.Numbered.{HasValues}
use Rattle.composer.specs.Rows.{is_in}
use Rattle.composer.specs.Steps.{call_arrows, inputs, native_arrows}
use Rattle.composer.specs.Ways.{all_ways, called_ways, callback_ways, input_ways, site_ways, ways_at_callee}
use Rattle.composer.specs.Work.{callee_places, callee_ways, flag, input_places, input_ways_of, places_of, targets_from, ways_at_input}

-- sums over the sites of which a vertex is the callee, or an input
pub target_sum : (v : ℕ) (g : ℕ → ℕ) (ways : List (Arrow ℕ)) → sum_by g (targets_from v ways) ≡ sum_by (λ way. cond (nat_eq way.from v) (g way.to) 0) ways
target_sum v g ways = sum_flat g (λ way. cond (nat_eq way.from v) (way.to ∷ []) []) ways ∙ sum_same _ _ ways (λ way. one (nat_eq way.from v) way.to)
  where
    one : (b : Bool) (x : ℕ) → sum_by g (cond b (x ∷ []) []) ≡ cond b (g x) 0
    one true x = let e : sum_by g (x ∷ []) ≡ g x + 0 = sum_by-cons g x [] in let z : g x + 0 ≡ g x = omega arith in e ∙ z
    one false x = refl

-- the sites from some place on are those of a list
abbrev AreFrom : List (CallSite ℕ) → ℕ → List (CallSite ℕ) → Type 0
AreFrom all k sites = (j : ℕ) → slice_get all (k + j) ≡ slice_get sites j

from_next : (all : List (CallSite ℕ)) (k : ℕ) (s : CallSite ℕ) (sites : List (CallSite ℕ)) → AreFrom all k (s ∷ sites) → AreFrom all (suc k) sites
from_next all k s sites are j = let e : suc k + j ≡ k + suc j = omega arith in ap (slice_get all) e ∙ are (suc j)

from_here : (all : List (CallSite ℕ)) (k : ℕ) (s : CallSite ℕ) (sites : List (CallSite ℕ)) → AreFrom all k (s ∷ sites) → slice_get all k ≡ Some s
from_here all k s sites are = let e : k ≡ k + 0 = omega arith in ap (slice_get all) e ∙ are 0

module _ (all : List (CallSite ℕ)) (v : ℕ) (g : ℕ → ℕ) (each : CallSite ℕ → ℕ) where
  pub callee_sum : (k : ℕ) (sites : List (CallSite ℕ)) → AreFrom all k sites → ((i : ℕ) (s : CallSite ℕ) → slice_get all i ≡ Some s → g i ≡ each s)
      → sum_by (λ (way : Arrow ℕ). cond (nat_eq way.from v) (g way.to) 0) (callee_places k sites) ≡ sum_by (λ s. cond (nat_eq s.callee v) (each s) 0) sites
  callee_sum k [] are same = refl
  callee_sum k (s ∷ sites) are same =
      let later = callee_sum (suc k) sites (from_next all k s sites are) same in
      let a = sum_by-cons (λ (way : Arrow ℕ). cond (nat_eq way.from v) (g way.to) 0) (record { from = s.callee; to = k }) (callee_places (suc k) sites) in
      let b = sum_by-cons (λ (x : CallSite ℕ). cond (nat_eq x.callee v) (each x) 0) s sites in
      let here : cond (nat_eq s.callee v) (g k) 0 ≡ cond (nat_eq s.callee v) (each s) 0 = ap (λ n. cond (nat_eq s.callee v) n 0) (same k s (from_here all k s sites are)) in
      omega (arith, later, a, b, here)

  places_sum : (k : ℕ) (vs : List ℕ) → sum_by (λ (way : Arrow ℕ). cond (nat_eq way.from v) (g way.to) 0) (places_of k vs) ≡ sum_by (λ w. cond (nat_eq w v) (g k) 0) vs
  places_sum k [] = refl
  places_sum k (w ∷ vs) =
      let later = places_sum k vs in
      let a = sum_by-cons (λ (way : Arrow ℕ). cond (nat_eq way.from v) (g way.to) 0) (record { from = w; to = k }) (places_of k vs) in
      let b = sum_by-cons (λ x. cond (nat_eq x v) (g k) 0) w vs in
      omega (arith, later, a, b)

  pub input_sum : (k : ℕ) (sites : List (CallSite ℕ)) → AreFrom all k sites → ((i : ℕ) (s : CallSite ℕ) → slice_get all i ≡ Some s → g i ≡ each s)
      → sum_by (λ (way : Arrow ℕ). cond (nat_eq way.from v) (g way.to) 0) (input_places k sites) ≡ sum_by (λ s. sum_by (λ w. cond (nat_eq w v) (each s) 0) (inputs s)) sites
  input_sum k [] are same = refl
  input_sum k (s ∷ sites) are same =
      let later = input_sum (suc k) sites (from_next all k s sites are) same in
      let a = sum_by-append (λ (way : Arrow ℕ). cond (nat_eq way.from v) (g way.to) 0) (places_of k (inputs s)) (input_places (suc k) sites) in
      let b = sum_by-cons (λ (x : CallSite ℕ). sum_by (λ w. cond (nat_eq w v) (each x) 0) (inputs x)) s sites in
      let c = places_sum k (inputs s) in
      let here : sum_by (λ w. cond (nat_eq w v) (g k) 0) (inputs s) ≡ sum_by (λ w. cond (nat_eq w v) (each s) 0) (inputs s) = ap (λ n. sum_by (λ w. cond (nat_eq w v) n 0) (inputs s)) (same k s (from_here all k s sites are)) in
      omega (arith, later, a, b, c, here)

-- a list of different numbers has one at most once
once : (m k : ℕ) (xs : List ℕ) → IsDistinct nat_eq xs → sum_by (λ x. cond (nat_eq x m) k 0) xs ≡ cond (is_in m xs) k 0
unfolding IsDistinct
once m k [] distinct = refl
once m k (x ∷ xs) distinct =
    let later = once m k xs distinct.1 in
    let e = sum_by-cons (λ y. cond (nat_eq y m) k 0) x xs in
    elim (eqb_tells x m) [
      | inl same ↦
          let absent : is_in m xs ≡ false = subst (λ y. is_in y xs ≡ false) same.1 (new_in x xs distinct.0) in
          let z : cond (is_in m xs) k 0 ≡ 0 = ap (λ b. cond b k 0) absent in
          let h : cond (nat_eq x m) k 0 ≡ k = ap (λ b. cond b k 0) same.0 in
          let all : sum_by (λ y. cond (nat_eq y m) k 0) (x ∷ xs) ≡ k = omega (arith, later, e, z, h) in
          all ∙ sym (ap (λ b. cond (b || is_in m xs) k 0) same.0)
      | inr other ↦
          let h : cond (nat_eq x m) k 0 ≡ 0 = ap (λ b. cond b k 0) other.0 in
          let all : sum_by (λ y. cond (nat_eq y m) k 0) (x ∷ xs) ≡ cond (is_in m xs) k 0 = omega (arith, later, e, h) in
          all ∙ sym (ap (λ b. cond (b || is_in m xs) k 0) other.0)
    ]

sum_plus : {X : Type 0} (f g h : X → ℕ) (xs : List X) → ((x : X) → Contains xs x → f x ≡ g x + h x) → sum_by f xs ≡ sum_by g xs + sum_by h xs
sum_plus f g h [] same = refl
sum_plus f g h (x ∷ xs) same =
    let a = sum_by-cons f x xs in
    let b = sum_by-cons g x xs in
    let c = sum_by-cons h x xs in
    let here : f x ≡ g x + h x = same x (0, omega arith, refl) in
    let later = sum_plus f g h xs (λ y d. same y (there x xs y d)) in
    omega (arith, a, b, c, here, later)

-- one more value t at vertex v
module _ (a : System ℕ ℕ) (values : HasValues a) (at next : ℕ → List ℕ) (t v : ℕ) (here : next v ≡ at v ++ t ∷ []) (others : (w : ℕ) → w ≢ v → next w ≡ at w) (distinct : (w : ℕ) → IsDistinct nat_eq (at w))
    (bound : (x w : ℕ) → is_in x (at w) ≡ true → x ≤ a.native) (W : Arrow ℕ → ℕ) where
  abbrev given : ℕ → Option (Callable ℕ ℕ)
  given x = slice_get a.functions x

  -- what a function that comes to an input gives
  abbrev handed : CallSite ℕ → ℕ
  handed s = sum_by W (callback_ways a.elem s (given t))

  sum_next : (w : ℕ) (g : ℕ → ℕ) → sum_by g (next w) ≡ sum_by g (at w) + cond (nat_eq w v) (g t) 0
  sum_next w g = elim (cases_eq w v) [
    | inl e ↦
        let x : sum_by g (next w) ≡ sum_by g (at v ++ t ∷ []) = ap (λ u. sum_by g (next u)) e ∙ ap (sum_by g) here in
        let y = sum_by_push g (at v) t in
        let p : sum_by g (at w) ≡ sum_by g (at v) = ap (λ u. sum_by g (at u)) e in
        let q : cond (nat_eq w v) (g t) 0 ≡ g t = ap (λ b. cond b (g t) 0) (eq-eqb w v e) in
        omega (arith, x, y, p, q)
    | inr ne ↦
        let x : sum_by g (next w) ≡ sum_by g (at w) = ap (sum_by g) (others w ne) in
        let q : cond (nat_eq w v) (g t) 0 ≡ 0 = ap (λ b. cond b (g t) 0) (ne_eqb w v ne) in
        omega (arith, x, q)
  ]

  input_next : (s : CallSite ℕ) (w : ℕ) → sum_by W (input_ways a next s w) ≡ sum_by W (input_ways a at s w) + cond (nat_eq w v) (handed s) 0
  input_next s w =
      let x : sum_by W (input_ways a next s w) ≡ sum_by (λ y. sum_by W (callback_ways a.elem s (given y))) (next w) = sum_flat W (λ y. callback_ways a.elem s (given y)) (next w) in
      let y : sum_by W (input_ways a at s w) ≡ sum_by (λ y. sum_by W (callback_ways a.elem s (given y))) (at w) = sum_flat W (λ y. callback_ways a.elem s (given y)) (at w) in
      let z = sum_next w (λ y. sum_by W (callback_ways a.elem s (given y))) in
      omega (arith, x, y, z)

  -- what the inputs of a site gain
  abbrev gained : CallSite ℕ → ℕ
  gained s = sum_by (λ w. cond (nat_eq w v) (handed s) 0) (inputs s)

  native_next : (s : CallSite ℕ) → sum_by W (called_ways a next s None) ≡ sum_by W (called_ways a at s None) + gained s
  native_next s =
      let x : sum_by W (called_ways a next s None) ≡ sum_by W (native_arrows s) + sum_by W (flat_map (input_ways a next s) (inputs s)) = sum_by-append W (native_arrows s) (flat_map (input_ways a next s) (inputs s)) in
      let y : sum_by W (called_ways a at s None) ≡ sum_by W (native_arrows s) + sum_by W (flat_map (input_ways a at s) (inputs s)) = sum_by-append W (native_arrows s) (flat_map (input_ways a at s) (inputs s)) in
      let p = sum_flat W (input_ways a next s) (inputs s) in
      let q = sum_flat W (input_ways a at s) (inputs s) in
      let z = sum_plus (λ w. sum_by W (input_ways a next s w)) (λ w. sum_by W (input_ways a at s w)) (λ w. cond (nat_eq w v) (handed s) 0) (inputs s) (λ w c. input_next s w) in
      omega (arith, x, y, p, q, z)

  called_next : (s : CallSite ℕ) (x : ℕ) → x ≤ a.native → sum_by W (called_ways a next s (given x)) ≡ sum_by W (called_ways a at s (given x)) + cond (nat_eq x a.native) (gained s) 0
  called_next s x le = by_function (given x) refl
    where
      by_function : (o : Option (Callable ℕ ℕ)) → given x ≡ o → sum_by W (called_ways a next s (given x)) ≡ sum_by W (called_ways a at s (given x)) + cond (nat_eq x a.native) (gained s) 0
      by_function None e =
          let is : x ≡ a.native = none_is_native a values x le e in
          let p : sum_by W (called_ways a next s (given x)) ≡ sum_by W (called_ways a next s None) = ap (λ o. sum_by W (called_ways a next s o)) e in
          let q : sum_by W (called_ways a at s (given x)) ≡ sum_by W (called_ways a at s None) = ap (λ o. sum_by W (called_ways a at s o)) e in
          let r : cond (nat_eq x a.native) (gained s) 0 ≡ gained s = ap (λ b. cond b (gained s) 0) (eq-eqb x a.native is) in
          let n = native_next s in
          omega (arith, p, q, r, n)
      by_function (Some f) e =
          let other : x ≢ a.native = λ is. absurd (let k : None ≡ Some f = sym (native_has_none a values) ∙ ap (slice_get a.functions) (sym is) ∙ e in cc) in
          let p : sum_by W (called_ways a next s (given x)) ≡ sum_by W (call_arrows s f) = ap (λ o. sum_by W (called_ways a next s o)) e in
          let q : sum_by W (called_ways a at s (given x)) ≡ sum_by W (call_arrows s f) = ap (λ o. sum_by W (called_ways a at s o)) e in
          let r : cond (nat_eq x a.native) (gained s) 0 ≡ 0 = ap (λ b. cond b (gained s) 0) (ne_eqb x a.native other) in
          omega (arith, p, q, r)

  -- the value itself makes the same ways before and after it came
  itself : (s : CallSite ℕ) → sum_by W (called_ways a next s (given t)) ≡ sum_by W (called_ways a at s (given t))
  itself s = by_function (given t) refl
    where
      nothing : (b : Bool) (k : ℕ) → k ≡ 0 → cond b k 0 ≡ 0
      nothing true k z = z
      nothing false k z = refl

      none_gained : (vs : List ℕ) (k : ℕ) → k ≡ 0 → sum_by (λ w. cond (nat_eq w v) k 0) vs ≡ 0
      none_gained [] k z = refl
      none_gained (w ∷ vs) k z =
          let e = sum_by-cons (λ w. cond (nat_eq w v) k 0) w vs in
          let f = nothing (nat_eq w v) k z in
          let g = none_gained vs k z in
          omega (arith, e, f, g)

      by_function : (o : Option (Callable ℕ ℕ)) → given t ≡ o → sum_by W (called_ways a next s (given t)) ≡ sum_by W (called_ways a at s (given t))
      by_function None e =
          let p : sum_by W (called_ways a next s (given t)) ≡ sum_by W (called_ways a next s None) = ap (λ o. sum_by W (called_ways a next s o)) e in
          let q : sum_by W (called_ways a at s (given t)) ≡ sum_by W (called_ways a at s None) = ap (λ o. sum_by W (called_ways a at s o)) e in
          let z : handed s ≡ 0 = ap (λ o. sum_by W (callback_ways a.elem s o)) e in
          let n = native_next s in
          let g = none_gained (inputs s) (handed s) z in
          omega (arith, p, q, n, g)
      by_function (Some f) e =
          let p : sum_by W (called_ways a next s (given t)) ≡ sum_by W (call_arrows s f) = ap (λ o. sum_by W (called_ways a next s o)) e in
          let q : sum_by W (called_ways a at s (given t)) ≡ sum_by W (call_arrows s f) = ap (λ o. sum_by W (called_ways a at s o)) e in
          omega (arith, p, q)

  abbrev called : CallSite ℕ → ℕ
  called s = sum_by W (called_ways a at s (given t))

  site_next : (s : CallSite ℕ) → sum_by W (site_ways a next s) ≡ sum_by W (site_ways a at s) + (cond (nat_eq s.callee v) (called s) 0 + cond (is_in a.native (at s.callee)) (gained s) 0)
  site_next s =
      let x : sum_by W (site_ways a next s) ≡ sum_by (λ y. sum_by W (called_ways a next s (given y))) (next s.callee) = sum_flat W (λ y. called_ways a next s (given y)) (next s.callee) in
      let y : sum_by W (site_ways a at s) ≡ sum_by (λ y. sum_by W (called_ways a at s (given y))) (at s.callee) = sum_flat W (λ y. called_ways a at s (given y)) (at s.callee) in
      let z = sum_next s.callee (λ y. sum_by W (called_ways a next s (given y))) in
      let p = sum_plus (λ y. sum_by W (called_ways a next s (given y))) (λ y. sum_by W (called_ways a at s (given y))) (λ y. cond (nat_eq y a.native) (gained s) 0) (at s.callee)
      (λ y c. called_next s y (bound y s.callee (in_from_member y (at s.callee) c))) in
      let q = once a.native (gained s) (at s.callee) (distinct s.callee) in
      let r : cond (nat_eq s.callee v) (sum_by W (called_ways a next s (given t))) 0 ≡ cond (nat_eq s.callee v) (called s) 0 = ap (λ k. cond (nat_eq s.callee v) k 0) (itself s) in
      omega (arith, x, y, z, p, q, r)

  -- all that it adds, site by site
  all_next : sum_by W (all_ways a next) ≡ sum_by W (all_ways a at) + (sum_by (λ (s : CallSite ℕ). cond (nat_eq s.callee v) (called s) 0) a.sites + sum_by (λ (s : CallSite ℕ). cond (is_in a.native (at s.callee)) (gained s) 0) a.sites)
  all_next =
      let x : sum_by W (all_ways a next) ≡ sum_by W a.flows + sum_by W (flat_map (site_ways a next) a.sites) = sum_by-append W a.flows (flat_map (site_ways a next) a.sites) in
      let y : sum_by W (all_ways a at) ≡ sum_by W a.flows + sum_by W (flat_map (site_ways a at) a.sites) = sum_by-append W a.flows (flat_map (site_ways a at) a.sites) in
      let p = sum_flat W (site_ways a next) a.sites in
      let q = sum_flat W (site_ways a at) a.sites in
      let z = sum_plus (λ s. sum_by W (site_ways a next s)) (λ s. sum_by W (site_ways a at s)) (λ s. cond (nat_eq s.callee v) (called s) 0 + cond (is_in a.native (at s.callee)) (gained s) 0) a.sites (λ s c. site_next s) in
      let both = sum_plus (λ s. cond (nat_eq s.callee v) (called s) 0 + cond (is_in a.native (at s.callee)) (gained s) 0) (λ s. cond (nat_eq s.callee v) (called s) 0) (λ s. cond (is_in a.native (at s.callee)) (gained s) 0) a.sites (λ s c. refl) in
      omega (arith, x, y, p, q, z, both)

  -- the same, by the lists of the sites of which v is the callee or an input
  module _ (callers takers : List ℕ) (natives : List Bool) (callers_are : callers ≡ targets_from v (callee_places 0 a.sites)) (takers_are : takers ≡ targets_from v (input_places 0 a.sites))
      (told : (w : ℕ) → flag natives w ≡ is_in a.native (at w)) where
    starts : AreFrom a.sites 0 a.sites
    starts j = let e : 0 + j ≡ j = omega arith in ap (slice_get a.sites) e

    callers_sum : sum_by W (callee_ways a at callers t) ≡ sum_by (λ (s : CallSite ℕ). cond (nat_eq s.callee v) (called s) 0) a.sites
    callers_sum =
        sum_flat W (λ i. ways_at_callee a at t (slice_get a.sites i)) callers
        ∙ ap (sum_by (λ i. sum_by W (ways_at_callee a at t (slice_get a.sites i)))) callers_are
        ∙ target_sum v (λ i. sum_by W (ways_at_callee a at t (slice_get a.sites i))) (callee_places 0 a.sites)
        ∙ callee_sum a.sites v (λ i. sum_by W (ways_at_callee a at t (slice_get a.sites i))) called 0 a.sites starts (λ i s e. ap (λ o. sum_by W (ways_at_callee a at t o)) e)

    takers_sum : sum_by W (input_ways_of a natives takers t) ≡ sum_by (λ (s : CallSite ℕ). cond (is_in a.native (at s.callee)) (gained s) 0) a.sites
    takers_sum =
        sum_flat W (λ i. ways_at_input a natives t (slice_get a.sites i)) takers
        ∙ ap (sum_by (λ i. sum_by W (ways_at_input a natives t (slice_get a.sites i)))) takers_are
        ∙ target_sum v (λ i. sum_by W (ways_at_input a natives t (slice_get a.sites i))) (input_places 0 a.sites)
        ∙ input_sum a.sites v (λ i. sum_by W (ways_at_input a natives t (slice_get a.sites i))) (λ s. cond (is_in a.native (at s.callee)) (handed s) 0) 0 a.sites starts each
        ∙ sum_same _ _ a.sites (λ s. out (is_in a.native (at s.callee)) (handed s) (inputs s))
      where
        each : (i : ℕ) (s : CallSite ℕ) → slice_get a.sites i ≡ Some s → sum_by W (ways_at_input a natives t (slice_get a.sites i)) ≡ cond (is_in a.native (at s.callee)) (handed s) 0
        each i s e =
            ap (λ o. sum_by W (ways_at_input a natives t o)) e
            ∙ sum_cond W (flag natives s.callee) (callback_ways a.elem s (given t))
            ∙ ap (λ b. cond b (handed s) 0) (told s.callee)

        out : (b : Bool) (k : ℕ) (vs : List ℕ) → sum_by (λ w. cond (nat_eq w v) (cond b k 0) 0) vs ≡ cond b (sum_by (λ w. cond (nat_eq w v) k 0) vs) 0
        out true k vs = refl
        out false k [] = refl
        out false k (w ∷ vs) =
            let e = sum_by-cons (λ y. cond (nat_eq y v) 0 0) w vs in
            let f = out false k vs in
            let g = zero_both (nat_eq w v) in
            omega (arith, e, f, g)
          where
            zero_both : (b : Bool) → ◌≡◌ {A = ℕ} (cond b 0 0) 0
            zero_both true = refl
            zero_both false = refl

    pub ways_added : sum_by W (all_ways a next) ≡ sum_by W (all_ways a at) + sum_by W (callee_ways a at callers t ++ input_ways_of a natives takers t)
    ways_added =
        let x = all_next in
        let y = sum_by-append W (callee_ways a at callers t) (input_ways_of a natives takers t) in
        let p = callers_sum in
        let q = takers_sum in
        omega (arith, x, y, p, q)
