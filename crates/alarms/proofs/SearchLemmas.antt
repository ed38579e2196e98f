-- The search for alarms.
use Rattle.std.proofs.Common.{◌≡◌, ℕ, ◌+◌, ◌<◌, ◌≤◌, ◌⊎◌, ◌&&◌, inl, inr, Bool, true, false, true≢false, List, [], ◌∷◌, ◌++◌, length, Option, Some, None, refl, sym, ap, subst, ◌∙◌, arith}
use Rattle.std.specs.Prelude.{Contains, slice_get}
use Rattle.std.specs.Str.{bytes_eq}
use Rattle.std.proofs.lemmas.Option.{same_Some, none-some, slice_get_read, slice_get_within, get_or_from_slice_get}
use Rattle.jam_base.specs.declared.edge.FunctionRef.{FunctionRef}
use Rattle.js_scopes.specs.declared.function.FunctionInfo.{FunctionInfo}
use Rattle.lock_reader.specs.Lock.{IsAscending}
use Rattle.lock_reader.specs.Owner.{IsOwner, IsOwnerAt}
use Rattle.lock_reader.specs.declared.lock.LockEntry.{LockEntry}
use Rattle.lock_reader.proofs.PlaceLemmas.{one_owner}
use Rattle.advisory_reader.specs.declared.advisory.Advisory.{Advisory}
use Rattle.advisory_reader.specs.declared.advisory.Selector.{Selector}
use Rattle.composer.specs.declared.application.Part.{Part}
use Rattle.alarms.specs.Affected.{inside, names_any}
use Rattle.alarms.specs.Alarms.{IsAlarm}
use Rattle.alarms.specs.Searching.{Adds, Hits, HitsAny, HitsAt, HitsBy, HitsOne, OfModule, alarm_for, function_at}
use Rattle.alarms.specs.Packages.{places_of}
use Rattle.alarms.specs.Versions.{concerns, holds_for, version_of}
use Rattle.alarms.specs.declared.found.Found.{Found}
use Rattle.alarms.specs.declared.search.Owned.{Owned}
use Rattle.alarms.proofs.AddsLemmas.{Adds-nothing, Adds-one, Adds-same, Adds-then}
use Rattle.alarms.proofs.PackageLemmas.{has_place}

-- ---- below a place

-- what is added for all items of a list, where it is one after another for those below a place
pub record Below {X Y : Type 0} (P : ℕ → Y → X → Type 0) (ys : List Y) (n : ℕ) (x : X) : Type 0 where
  pub place : ℕ
  pub item : Y
  pub here : slice_get ys place ≡ Some item
  pub below : place < n
  pub holds : P place item x

module _ {X Y : Type 0} (P : ℕ → Y → X → Type 0) (ys : List Y) where
  pub below_none : (xs : List X) → Adds (Below P ys 0) xs xs
  below_none xs = Adds-nothing (Below P ys 0) xs (λ x (b : Below P ys 0 x). omega (arith, b.below))

  pub below_more : (n : ℕ) (y : Y) (xs mid bs : List X) → slice_get ys n ≡ Some y → Adds (Below P ys n) xs mid → Adds (P n y) mid bs → Adds (Below P ys (n + 1)) xs bs
  below_more n y xs mid bs here a b =
      Adds-then (Below P ys n) (P n y) (Below P ys (n + 1)) xs mid bs a b
      (λ x (h : Below P ys n x). record { place = h.place; item = h.item; here = h.here; below = omega (arith, h.below); holds = h.holds })
      (λ x h. record { place = n; item = y; here = here; below = omega arith; holds = h })
      split
    where
      less_or_last : (k : ℕ) → k < n + 1 → (k < n) ⊎ (k ≡ n)
      less_or_last k lt = grind (arith, lt)

      last : (x : X) (h : Below P ys (n + 1) x) → h.place ≡ n → P n y x
      last x h e =
          let item : h.item ≡ y = same_Some h.item y (sym h.here ∙ ap (slice_get ys) e ∙ here) in
          subst (λ k. P k y x) e (subst (λ z. P h.place z x) item h.holds)

      split : (x : X) → Below P ys (n + 1) x → Below P ys n x ⊎ P n y x
      split x h = elim (less_or_last h.place h.below) [
        | inl lt ↦ inl (record { place = h.place; item = h.item; here = h.here; below = lt; holds = h.holds })
        | inr e ↦ inr (last x h e)
      ]

  -- all items are below the end
  pub below_all : (x : X) (place : ℕ) (item : Y) → slice_get ys place ≡ Some item → P place item x → Below P ys (length ys) x
  below_all x place item here holds = record { place = place; item = item; here = here; below = slice_get_within ys place item here; holds = holds }

-- ---- the functions of a module, and the advisories

pub all_functions : (reached : FunctionRef → Bool) (i : ℕ) (selectors : List Selector) (owned : Owned) (xs zs : List Found)
    → Adds (Below (HitsOne reached i selectors owned) owned.functions.now (length owned.functions.now)) xs zs → Adds (Hits reached i selectors owned) xs zs
all_functions reached i selectors owned xs zs a =
    let P = HitsOne reached i selectors owned in
    Adds-same (Below P owned.functions.now (length owned.functions.now)) (Hits reached i selectors owned) xs zs a
    (λ x b. record { f = b.place; function = b.item; here = b.here; hits = b.holds })
    (λ x h. below_all P owned.functions.now x h.f h.function h.here h.hits)

pub advisory_added : (reached : FunctionRef → Bool) (i : ℕ) (advisory : Advisory) (owned : Owned) (xs zs : List Found) → concerns advisory owned.entry.now ≡ true
    → Adds (Hits reached i advisory.functions owned) xs zs → Adds (HitsBy reached i advisory owned) xs zs
advisory_added reached i advisory owned xs zs yes_ a =
    Adds-same (Hits reached i advisory.functions owned) (HitsBy reached i advisory owned) xs zs a (λ x h. record { concerned = yes_; hits = h }) (λ x h. h.hits)

-- what the advisory at a place adds
pub place_added : (reached : FunctionRef → Bool) (advisories : List Advisory) (owned : Owned) (i : ℕ) (advisory : Advisory) (xs zs : List Found) → slice_get advisories i ≡ Some advisory
    → Adds (HitsBy reached i advisory owned) xs zs → Adds (HitsAt reached advisories owned i) xs zs
place_added reached advisories owned i advisory xs zs here a =
    Adds-same (HitsBy reached i advisory owned) (HitsAt reached advisories owned i) xs zs a
    (λ x h. record { advisory = advisory; here = here; hits = h })
    (λ x h. subst (λ (b : Advisory). HitsBy reached i b owned x) (same_Some h.advisory advisory (sym h.here ∙ here)) h.hits)

both_true : (a b : Bool) → (a && b) ≡ true → (a ≡ true) × (b ≡ true)
both_true true true e = (refl, refl)
both_true true false e = absurd (true≢false (sym e))
both_true false b e = absurd (true≢false (sym e))

-- the places of a package have all advisories that speak of it
pub all_places : (reached : FunctionRef → Bool) (advisories : List Advisory) (owned : Owned) (places : List ℕ) (xs zs : List Found) → places ≡ places_of advisories owned.entry.now.name
    → Adds (Below (λ k place. HitsAt reached advisories owned place) places (length places)) xs zs → Adds (HitsAny reached advisories owned) xs zs
all_places reached advisories owned places xs zs places_are a =
    let P : ℕ → ℕ → Found → Type 0 = λ k place. HitsAt reached advisories owned place in
    Adds-same (Below P places (length places)) (HitsAny reached advisories owned) xs zs a
    (λ x b. record { i = b.item; at = b.holds })
    (λ x h. (
    let entry = owned.entry.now in
    let advisory = h.at.advisory in
    let named : bytes_eq entry.name advisory.package ≡ true = (both_true (bytes_eq entry.name advisory.package) (holds_for advisory.range (version_of entry)) h.at.hits.concerned).0 in
    let number : 0 + h.i ≡ h.i = omega arith in
    let there : Contains places h.i = subst (λ (ps : List ℕ). Contains ps h.i) (sym places_are) (subst (Contains (places_of advisories entry.name)) number (has_place 0 entry.name advisories h.i advisory h.at.here named)) in
    below_all P places x there.0 h.i (slice_get_read places (length places) there.0 h.i refl there.1 (sym there.2)) h.at
    ))

-- ---- a module

true_both : (a b : Bool) → a ≡ true → b ≡ true → (a && b) ≡ true
true_both true true x y = refl
true_both true false x y = y
true_both false b x y = absurd (true≢false (sym x))

module _ (entries : List LockEntry) (advisories : List Advisory) (parts : List Part) (reached : FunctionRef → Bool) (part : Part) (owned : Owned) (sorted : IsAscending entries)
    (part_at : slice_get parts owned.m ≡ Some part) (entry_at : slice_get entries owned.place ≡ Some owned.entry.now) (owner : IsOwner entries part.path (Some owned.entry.now))
    (inside_is : owned.inside.now ≡ inside owned.entry.now.location part.path) (functions_are : owned.functions.now ≡ part.summary.lists.functions) where
  alarm_of : (x : Found) → HitsAny reached advisories owned x → OfModule entries advisories parts reached owned.m x
  alarm_of x any =
      let at = any.at in
      let by = at.hits in
      let hits = by.hits in
      let one = hits.hits in
      let both = both_true (reached (function_at owned hits.f)) (names_any owned.inside.now hits.function.name at.advisory.functions) one.hit in
      record {
        alarm = record {
          advisory = at.advisory;
          advisory_at = ap (λ (y : Found). slice_get advisories y.advisory) one.is ∙ at.here;
          entry = owned.entry.now;
          entry_at = ap (λ (y : Found). slice_get entries y.entry) one.is ∙ entry_at;
          part = part;
          part_at = ap (λ (y : Found). slice_get parts y.function.module) one.is ∙ part_at;
          function = hits.function;
          function_at = ap (λ (y : Found). slice_get part.summary.lists.functions y.function.function) one.is ∙ ap (λ fs. slice_get fs hits.f) (sym functions_are) ∙ hits.here;
          concerned = by.concerned;
          owner = owner;
          reachable = ap (λ (y : Found). reached y.function) one.is ∙ both.0;
          named = ap (λ t. names_any t hits.function.name at.advisory.functions) (sym inside_is) ∙ both.1;
        };
        module_is = ap (λ (y : Found). y.function.module) one.is;
      }

  hits_of : (x : Found) → OfModule entries advisories parts reached owned.m x → HitsAny reached advisories owned x
  hits_of x (of) =
      let alarm = of.alarm in
      let same_part : alarm.part ≡ part = same_Some alarm.part part (sym alarm.part_at ∙ ap (slice_get parts) of.module_is ∙ part_at) in
      let here_owner : IsOwner entries part.path (Some alarm.entry) = subst (λ (p : Part). IsOwner entries p.path (Some alarm.entry)) same_part alarm.owner in
      let places = one_owner entries part.path x.entry owned.place alarm.entry owned.entry.now sorted alarm.entry_at entry_at here_owner owner in
      let same_place : x.entry ≡ owned.place = places.0 in
      let same_entry : alarm.entry ≡ owned.entry.now = places.1 in
      let function : FunctionRef = function_at owned x.function.function in
      let is : x ≡ alarm_for owned x.advisory x.function.function = λ k. record { advisory = x.advisory; entry = same_place k; function = record { «module» = of.module_is k; function = x.function.function } } in
      record {
        i = x.advisory;
        at = record {
          advisory = alarm.advisory;
          here = alarm.advisory_at;
          hits = record {
            concerned = ap (concerns alarm.advisory) (sym same_entry) ∙ alarm.concerned;
            hits = record {
              f = x.function.function;
              function = alarm.function;
              here = ap (λ fs. slice_get fs x.function.function) functions_are ∙ ap (λ (p : Part). slice_get p.summary.lists.functions x.function.function) (sym same_part) ∙ alarm.function_at;
              hits = record {
                is = is;
                hit = true_both (reached function) (names_any owned.inside.now alarm.function.name alarm.advisory.functions)
                    (ap (λ (y : Found). reached y.function) (sym is) ∙ alarm.reachable)
                    (ap (λ t. names_any t alarm.function.name alarm.advisory.functions) inside_is ∙ (λ k. names_any (inside (sym same_entry k).location (sym same_part k).path) alarm.function.name alarm.advisory.functions) ∙ alarm.named);
              };
            };
          };
        };
      }

  pub module_added : (xs zs : List Found) → Adds (HitsAny reached advisories owned) xs zs → Adds (OfModule entries advisories parts reached owned.m) xs zs
  module_added xs zs a = Adds-same (HitsAny reached advisories owned) (OfModule entries advisories parts reached owned.m) xs zs a alarm_of hits_of

-- ---- all modules

pub all_modules : (entries : List LockEntry) (advisories : List Advisory) (parts : List Part) (reached : FunctionRef → Bool) (zs : List Found)
    → Adds (Below (λ m part. OfModule entries advisories parts reached m) parts (length parts)) [] zs → Adds (IsAlarm entries advisories parts reached) [] zs
all_modules entries advisories parts reached zs a =
    let P : ℕ → Part → Found → Type 0 = λ m part. OfModule entries advisories parts reached m in
    Adds-same (Below P parts (length parts)) (IsAlarm entries advisories parts reached) [] zs a
    (λ x b. b.holds.alarm)
    (λ x alarm. below_all P parts x x.function.module alarm.part alarm.part_at (record { alarm = alarm; module_is = refl }))
