-- The list of the reachable functions, by their numbers, and all that is made.
use Rattle.std.proofs.Common.{◌≡◌, ℕ, zero, suc, ◌+◌, ◌-◌, ◌<◌, ◌≤◌, ◌⊎◌, inl, inr, Bool, true, false, cond, List, [], ◌∷◌, length, map, slice_index, nat_lt, sum, refl, sym, ◌∙◌, ap, subst, arith, lt-ltb, ltb-true}
use Rattle.std.specs.Prelude.{◌↔◌, All, Contains, IsTrue, Option, Some, None, is_some}
use Rattle.std.specs.List.{count_by, AllByRecursion}
use Rattle.std.specs.List.Sorted.{IsStrictlySortedBy}
use Rattle.std.specs.declared.cmp.Ordering.{Ordering}
use Rattle.std.specs.declared.cmp.Ordering.TheVariants.{Less, Equal}
use Rattle.std.specs.Cmp.{nat_cmp_is}
use Rattle.std.specs.Ordering.{nat_cmp, ordering_then}
use Rattle.std.proofs.lemmas.Bool.{cases_order}
use Rattle.std.proofs.lemmas.List.{length-map}
use Rattle.std.proofs.lemmas.List.Sums.{sum_by-cons}
use Rattle.jam_base.specs.declared.edge.Edge.{Edge}
use Rattle.jam_base.specs.declared.edge.FunctionRef.{FunctionRef}
use Rattle.jam_base.specs.Edges.{edge_order}
use Rattle.reach_path.specs.declared.lasts.Last.{Last}
use Rattle.reach_path.specs.Lasts.{AreLasts}
use Rattle.reach_path.specs.Levels.{IsBetween, IsFunction, IsReachable, body_of}
use Rattle.reach_path.specs.Numbers.{function_at, number_of, starts_from}
use Rattle.reach_path.specs.Reached.{AreReachable, IsKept, IsReachOf, Reached, function_order, path_to}
use Rattle.reach_path.specs.Search.{AreLevels}
use Rattle.reach_path.proofs.NumberLemmas.{AreStarts-from, function_at-number, number_below, starts_rise, starts_within, length-starts_from}
use Rattle.reach_path.proofs.RouteLemmas.{function_of_steps, has_level, is_level, none_found, numbers, path_found, walked}

-- the numbers from k on of what has a level
abbrev with_level : ℕ → List ℕ → List ℕ
with_level k [] = []
with_level k (l ∷ ls) = cond (nat_lt 0 l) (k ∷ with_level (k + 1) ls) (with_level (k + 1) ls)

counted : (k : ℕ) (ls : List ℕ) → length (with_level k ls) ≡ count_by (λ l. nat_lt 0 l) ls
counted k [] = refl
counted k (l ∷ ls) = go (nat_lt 0 l) (counted (k + 1) ls) ∙ sym (sum_by-cons (λ x. cond (nat_lt 0 x) 1 0) l ls)
  where
    go : (b : Bool) → length (with_level (k + 1) ls) ≡ count_by (λ x. nat_lt 0 x) ls → length (cond b (k ∷ with_level (k + 1) ls) (with_level (k + 1) ls)) ≡ cond b 1 0 + count_by (λ x. nat_lt 0 x) ls
    go true e = omega (arith, e)
    go false e = omega (arith, e)

none : {X : Type 0} (x : X) → Contains [] x → ⊥
none x h = omega (arith, h.1)

here : {X : Type 0} (x : X) (xs : List X) → Contains (x ∷ xs) x
here x xs = (0, omega arith, refl)

there : {X : Type 0} (y : X) (xs : List X) (x : X) → Contains xs x → Contains (y ∷ xs) x
there y xs x h = (suc h.0, omega (arith, h.1), h.2)

cons_cases : {X : Type 0} (y : X) (xs : List X) (x : X) → Contains (y ∷ xs) x → (y ≡ x) ⊎ Contains xs x
cons_cases y xs x (zero, lt, e) = inl e
cons_cases y xs x (suc k, lt, e) = inr (k, omega (arith, lt), e)

from_map : {X Y : Type 0} (f : X → Y) (xs : List X) (y : Y) → Contains (map f xs) y → (x : X) × Contains xs x × (f x ≡ y)
from_map f [] y h = absurd (none y h)
from_map f (x ∷ xs) y h = elim (cons_cases (f x) (map f xs) y h) [
  | inl e ↦ (x, here x xs, e)
  | inr g ↦ (let p = from_map f xs y g in (p.0, there x xs p.0 p.1, p.2))
]

into_map : {X Y : Type 0} (f : X → Y) (xs : List X) (x : X) → Contains xs x → Contains (map f xs) (f x)
into_map f [] x h = absurd (none x h)
into_map f (z ∷ xs) x (zero, lt, e) = subst (λ w. Contains (f z ∷ map f xs) (f w)) e (here (f z) (map f xs))
into_map f (z ∷ xs) x (suc k, lt, e) = there (f z) (map f xs) (f x) (into_map f xs x (k, omega (arith, lt), e))

-- what is listed has a level, and what has a level is listed
listed_has : (k : ℕ) (ls : List ℕ) (n : ℕ) → Contains (with_level k ls) n → (j : ℕ) × (n ≡ k + j) × (0 < slice_index ls j)
listed_has k [] n h = absurd (none n h)
listed_has k (l ∷ ls) n h = go (nat_lt 0 l) refl (listed_has (k + 1) ls n) h
  where
    go : (b : Bool) → nat_lt 0 l ≡ b → (Contains (with_level (k + 1) ls) n → (j : ℕ) × (n ≡ k + 1 + j) × (0 < slice_index ls j)) → Contains (cond b (k ∷ with_level (k + 1) ls) (with_level (k + 1) ls)) n
        → (j : ℕ) × (n ≡ k + j) × (0 < slice_index (l ∷ ls) j)
    go true e rest h = elim (cons_cases k (with_level (k + 1) ls) n h) [
      | inl same ↦ (0, omega (arith, same), ltb-true 0 l e)
      | inr more ↦ (let p = rest more in (suc p.0, omega (arith, p.1), p.2))
    ]
    go false e rest h = let p = rest h in (suc p.0, omega (arith, p.1), p.2)

is_listed : (k : ℕ) (ls : List ℕ) (j n : ℕ) → n ≡ k + j → 0 < slice_index ls j → Contains (with_level k ls) n
is_listed k [] j n e pos = absurd (omega (arith, pos))
is_listed k (l ∷ ls) zero n e pos = go (nat_lt 0 l) (lt-ltb 0 l pos)
  where
    go : (b : Bool) → b ≡ true → Contains (cond b (k ∷ with_level (k + 1) ls) (with_level (k + 1) ls)) n
    go true t = subst (Contains (k ∷ with_level (k + 1) ls)) (omega (arith, e)) (here k (with_level (k + 1) ls))
    go false t = cc t
is_listed k (l ∷ ls) (suc j) n e pos = go (nat_lt 0 l) (is_listed (k + 1) ls j n (omega (arith, e)) pos)
  where
    go : (b : Bool) → Contains (with_level (k + 1) ls) n → Contains (cond b (k ∷ with_level (k + 1) ls) (with_level (k + 1) ls)) n
    go true h = there k (with_level (k + 1) ls) n h
    go false h = h

-- they ascend, where numbers of this kind give what ascends
module _ {X : Type 0} (order : X → X → Ordering) (f : ℕ → X) (P : ℕ → Type 0) (rises : (a b : ℕ) → a < b → P a → P b → order (f a) (f b) ≡ Less) where
  behind : (a k : ℕ) (ls : List ℕ) → a < k → P a → ((j n : ℕ) → n ≡ k + j → 0 < slice_index ls j → P n) → AllByRecursion (λ y. order (f a) y ≡ Less) (map f (with_level k ls))
  behind a k [] lt p ps = tt
  behind a k (l ∷ ls) lt p ps = go (nat_lt 0 l) refl (behind a (k + 1) ls (omega (arith, lt)) p (λ j n e pos. ps (suc j) n (omega (arith, e)) pos))
    where
      go : (b : Bool) → nat_lt 0 l ≡ b → AllByRecursion (λ y. order (f a) y ≡ Less) (map f (with_level (k + 1) ls)) → AllByRecursion (λ y. order (f a) y ≡ Less) (map f (cond b (k ∷ with_level (k + 1) ls) (with_level (k + 1) ls)))
      go true e rest = (rises a k lt p (ps zero k (omega arith) (ltb-true 0 l e)), rest)
      go false e rest = rest

  ascend : (k : ℕ) (ls : List ℕ) → ((j n : ℕ) → n ≡ k + j → 0 < slice_index ls j → P n) → IsStrictlySortedBy order (map f (with_level k ls))
  unfolding IsStrictlySortedBy
  ascend k [] ps = tt
  ascend k (l ∷ ls) ps = go (nat_lt 0 l) refl (ascend (k + 1) ls later)
    where
      later : (j n : ℕ) → n ≡ k + 1 + j → 0 < slice_index ls j → P n
      later j n e pos = ps (suc j) n (omega (arith, e)) pos

      go : (b : Bool) → nat_lt 0 l ≡ b → IsStrictlySortedBy order (map f (with_level (k + 1) ls)) → IsStrictlySortedBy order (map f (cond b (k ∷ with_level (k + 1) ls) (with_level (k + 1) ls)))
      go true e rest = (behind k (k + 1) ls (omega arith) (ps zero k (omega arith) (ltb-true 0 l e)) later, rest)
      go false e rest = rest

-- functions go in the order of their numbers
by_numbers : (counts : List ℕ) (a b : FunctionRef) → IsFunction counts a → IsFunction counts b → number_of (starts_from 0 counts) a < number_of (starts_from 0 counts) b → function_order a b ≡ Less
by_numbers counts a b is_a is_b lt = elim (cases_order a.module b.module) [
  | inl same ↦ go (nat_cmp a.module b.module) (nat_cmp a.function b.function) (sym (nat_cmp_is a.module b.module Equal same))
      (sym (nat_cmp_is a.function b.function Less (omega (arith, lt, ap (slice_index (starts_from 0 counts)) same))))
  | inr (inl less) ↦ first (nat_cmp a.module b.module) (nat_cmp a.function b.function) (sym (nat_cmp_is a.module b.module Less less))
  | inr (inr more) ↦ absurd (omega (arith, lt, number_below counts b is_b, starts_rise 0 counts (suc b.module) a.module 0 (omega (arith, more)) (omega (arith, length-starts_from 0 counts, is_a.in_modules))))
]
  where
    go : (m f : Ordering) → m ≡ Equal → f ≡ Less → ordering_then m f ≡ Less
    go m f em ef = ap (λ x. ordering_then x f) em ∙ ef

    first : (m f : Ordering) → m ≡ Less → ordering_then m f ≡ Less
    first m f em = ap (λ x. ordering_then x f) em

module _ (counts : List ℕ) (edges : List Edge) (entry : ℕ) (all : All (IsBetween counts) edges) (body : IsFunction counts (body_of entry)) (levels : List ℕ) (h : AreLevels (numbers counts edges entry) levels) where
  abbrev number : FunctionRef → ℕ
  number = number_of (starts_from 0 counts)

  -- what has a level is the number of a function
  function_with : (v : ℕ) → 0 < slice_index levels v → (f : FunctionRef) × IsFunction counts f × (number f ≡ v)
  function_with v pos = function_of_steps counts edges entry all body (slice_index levels v - 1) v (h.steps v (slice_index levels v - 1) (omega (arith, pos)))

  named : (v : ℕ) → 0 < slice_index levels v → (f : FunctionRef) × IsFunction counts f × (number f ≡ v) × (function_at (starts_from 0 counts) v ≡ f)
  named v pos = let w = function_with v pos in (w.0, w.1, w.2, ap (function_at (starts_from 0 counts)) (sym w.2) ∙ function_at-number counts w.0 w.1)

  rises : (a b : ℕ) → a < b → 0 < slice_index levels a → 0 < slice_index levels b → function_order (function_at (starts_from 0 counts) a) (function_at (starts_from 0 counts) b) ≡ Less
  rises a b lt pa pb =
      let f = named a pa in
      let k = named b pb in
      ap (λ x. function_order x (function_at (starts_from 0 counts) b)) f.3 ∙ ap (function_order f.0) k.3 ∙ by_numbers counts f.0 k.0 f.1 k.1 (omega (arith, lt, f.2, k.2))

  abbrev reachable : List FunctionRef
  reachable = map (function_at (starts_from 0 counts)) (with_level 0 levels)

  are_reachable : AreReachable edges entry reachable
  are_reachable = record {
    sorted = ascend function_order (function_at (starts_from 0 counts)) (λ v. 0 < slice_index levels v) rises 0 levels (λ j n e pos. subst (λ v. 0 < slice_index levels v) (omega (arith, e)) pos);
    members = λ f. (from f, into f);
  }
    where
      from : (f : FunctionRef) → Contains reachable f → IsReachable edges entry f
      from f c =
          let m = from_map (function_at (starts_from 0 counts)) (with_level 0 levels) f c in
          let has = listed_has 0 levels m.0 m.1 in
          let pos : 0 < slice_index levels m.0 = subst (λ v. 0 < slice_index levels v) (omega (arith, has.1)) has.2 in
          let w = named m.0 pos in
          let same : w.0 ≡ f = sym w.3 ∙ m.2 in
          let level : slice_index levels (number f) ≡ slice_index levels m.0 - 1 + 1 = omega (arith, pos, ap (slice_index levels) (ap number (sym same) ∙ w.2)) in
          (slice_index levels m.0 - 1, is_level counts edges entry all body levels h (slice_index levels m.0 - 1) f (subst (IsFunction counts) same w.1) level)

      into : (f : FunctionRef) → IsReachable edges entry f → Contains reachable f
      into f (n, level) =
          let pos = has_level counts edges entry all body levels h n f level.walk in
          subst (Contains reachable) (function_at-number counts f (walked counts edges entry all body n f level.walk))
          (into_map (function_at (starts_from 0 counts)) (with_level 0 levels) (number f) (is_listed 0 levels (number f) (number f) (omega arith) pos))

  module _ (lasts : List Last) (l : AreLasts (numbers counts edges entry) levels 0 lasts) where
    abbrev made : Reached
    made = record { starts = starts_from 0 counts; levels = levels; lasts = lasts }

    pub reach_made : IsStrictlySortedBy edge_order edges → IsReachOf edges entry made
    reach_made sorted = record {
      has = λ f. found f (path_to made f) refl;
      path = path_found counts edges entry all body levels h sorted lasts l;
      count = (reachable, are_reachable, sym (counted 0 levels) ∙ sym (length-map (with_level 0 levels) (function_at (starts_from 0 counts))));
    }
      where
        found : (f : FunctionRef) (o : Option (List Edge)) → path_to made f ≡ o → IsTrue (is_some o) ↔ IsReachable edges entry f
        found f None e = (λ some. cc some, λ reachable. absurd (none_found counts edges entry all body levels h sorted lasts l f e reachable))
        found f (Some path) e = (λ _. (length path, (path_found counts edges entry all body levels h sorted lasts l f path e).level), λ _. refl)

    pub kept_made : length counts ≤ 4294967294 → sum counts < 4294967296 → IsKept made
    kept_made few fits = record {
      starts = AreStarts-from counts few;
      within = λ m. omega (arith, starts_within counts m, h.size);
      fits = omega (arith, fits, h.size);
      same = omega (arith, l.size, h.size);
      callers = λ v lt. omega (arith, l.callers v (omega (arith, lt, h.size)), h.size);
    }
