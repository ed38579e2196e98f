-- What the calls of the worklist ask for, and what it has spent at its end.
use Rattle.std.proofs.Common.{◌≡◌, ℕ, zero, suc, ◌+◌, ◌-◌, ◌<◌, ◌≤◌, inl, inr, Bool, true, false, cond, List, [], ◌∷◌, ◌++◌, length, get_or, take, drop, refl, ap, sym, ◌∙◌, arith, length-drop}
use Rattle.std.specs.Prelude.{All, Contains, nat_eq}
use Rattle.std.specs.List.{IsDistinct, slice_range, sum_by}
use Rattle.std.proofs.lemmas.Bool.{cases_eq, eq-eqb, ne_eqb}
use Rattle.std.proofs.lemmas.List.{drop-drop, get_or-drop, get_or-take, length-take}
use Rattle.std.proofs.lemmas.Grind.{get_or_default_zero}
use Rattle.std.proofs.lemmas.List.Elements.{All-append, All-cons, All-head, All-map, All-nil, All-tail}
use Rattle.composer.specs.declared.system.Arrow.{Arrow}
use Rattle.composer.specs.declared.system.CallSite.{CallSite}
use Rattle.composer.specs.declared.system.System.{System}
use Rattle.composer.specs.Numbered.{Below, HasValues, IsSiteIn, IsSystemIn}
use Rattle.composer.specs.Rows.{is_in, row}
use Rattle.composer.specs.Solution.{InSolution}
use Rattle.composer.specs.Steps.{inputs}
use Rattle.composer.specs.Ways.{all_ways}
use Rattle.composer.specs.Work.{AreThere, Keeps, Rests, callee_places, first_of, input_places, places_of, spent, total, work_of}
use Rattle.composer.proofs.KeepLemmas.{all_carried, among_first, among_last, same_at}
use Rattle.composer.proofs.SpendLemmas.{spent_whole}
use Rattle.composer.proofs.UseLemmas.{distinct_total, sum_ones, total_le}
use Rattle.composer.proofs.WayLemmas.{inputs_in, reason_in, solution_in, values_upto}

-- the place of a number that isn't 0 lies within the list
pub place_within : (xs : List ℕ) (i k : ℕ) → k < get_or xs i 0 → i < length xs
place_within [] i k lt = absurd (omega (arith, lt))
place_within (x ∷ xs) zero k lt = omega arith
place_within (x ∷ xs) (suc i) k lt = let e = place_within xs i k lt in omega (arith, e)

-- what is read by a default of its own is read by 0
pub read_at : (xs : List ℕ) (i x : ℕ) → i < length xs → x ≡ get_or xs i x → x ≡ get_or xs i 0
read_at xs i x lt is = is ∙ get_or_default_zero xs i x lt

-- the values up to the number of those that were carried
pub from_first : (rows : List (List ℕ)) (carried : List ℕ) (v k : ℕ) → k ≡ get_or carried v 0 → slice_range (row rows v) 0 k ≡ first_of rows carried v
from_first rows carried v k is = let e : k - 0 ≡ get_or carried v 0 = omega (arith, is) in ap (λ j. take j (row rows v)) e

-- so many values are there as are noted
pub are_there : (rows : List (List ℕ)) (carried : List ℕ) (u i : ℕ) → ((v : ℕ) → get_or carried v 0 ≤ length (row rows v)) → i ≤ get_or carried u 0 → AreThere rows carried u i
are_there rows carried u i within le v = elim (cases_eq v u) [
  | inl e ↦ rw (eq-eqb v u e) (let w = within v in let s = ap (λ x. get_or carried x 0) e in omega (arith, w, s, le))
  | inr ne ↦ rw (ne_eqb v u ne) (within v)
]

-- where the values from place i on are those from place k on of the first m
module _ (i k m : ℕ) (ts xs : List ℕ) (same : drop i ts ≡ drop k (take m xs)) where
  pub next_less : i < length ts → k < m
  next_less lt =
      let a = ap length same in
      let b = length-drop i ts in
      let c = length-drop k (take m xs) in
      let d = length-take m xs in
      omega (arith, a, b, c, d, lt)

  pub next_is : i < length ts → get_or xs k 0 ≡ get_or ts i 0
  next_is lt =
      let less = next_less lt in
      let p : k + 0 ≡ k = omega arith in
      let q : i + 0 ≡ i = omega arith in
      sym (get_or-take m xs k 0 less)
      ∙ ap (λ j. get_or (take m xs) j 0) (sym p)
      ∙ sym (get_or-drop k (take m xs) 0 0)
      ∙ ap (λ ys. get_or ys 0 0) (sym same)
      ∙ get_or-drop i ts 0 0
      ∙ ap (λ j. get_or ts j 0) q

  pub next_rest : drop (i + 1) ts ≡ drop (k + 1) (take m xs)
  next_rest = sym (drop-drop 1 i ts) ∙ ap (drop 1) same ∙ drop-drop 1 k (take m xs)

  pub none_next : length ts ≤ i → m ≤ length xs → m ≤ k
  none_next past few =
      let a = ap length same in
      let b = length-drop i ts in
      let c = length-drop k (take m xs) in
      let d = length-take m xs in
      omega (arith, a, b, c, d, past, few)

-- sites have vertices as their callees and inputs
abbrev IsFrom : ℕ → Arrow ℕ → Type 0
IsFrom n way = way.from < n

pub callee_places_below : (n k : ℕ) (sites : List (CallSite ℕ)) → All (IsSiteIn (Below n)) sites → All (λ (way : Arrow ℕ). way.from < n) (callee_places k sites)
callee_places_below n k [] all = All-nil (IsFrom n)
callee_places_below n k (s ∷ sites) all =
    All-cons (IsFrom n) (record { from = s.callee; to = k }) (callee_places (suc k) sites) (All-head (IsSiteIn (Below n)) s sites all).callee
    (callee_places_below n (suc k) sites (All-tail (IsSiteIn (Below n)) s sites all))

pub input_places_below : (n k : ℕ) (sites : List (CallSite ℕ)) → All (IsSiteIn (Below n)) sites → All (λ (way : Arrow ℕ). way.from < n) (input_places k sites)
input_places_below n k [] all = All-nil (IsFrom n)
input_places_below n k (s ∷ sites) all =
    All-append (IsFrom n) (places_of k (inputs s)) (input_places (suc k) sites)
    (All-map (IsFrom n) (λ v. record { from = v; to = k }) (inputs s) (inputs_in (Below n) s (All-head (IsSiteIn (Below n)) s sites all)))
    (input_places_below n (suc k) sites (All-tail (IsSiteIn (Below n)) s sites all))

-- what is carried is a function or the native
pub carried_upto : (a : System ℕ ℕ) (n : ℕ) (ways : List (Arrow ℕ)) (rows outs : List (List ℕ)) (carried pending : List ℕ) → IsSystemIn (Below n) a → HasValues a → Keeps a n ways rows outs carried pending
    → (v i j t : ℕ) → is_in t (slice_range (row rows v) i j) ≡ true → t ≤ a.native
carried_upto a n ways rows outs carried pending inside values k v i j t h =
    let there : is_in t (row rows v) ≡ true = among_last t i (row rows v) (among_first t (j - i) (drop i (row rows v)) h) in
    (solution_in (Below n) (λ y. y ≤ a.native) a inside (values_upto a values) (omega arith) t v (k.found t v there)).0

-- different numbers below n are n at most
pub few_numbers : (n : ℕ) (xs : List ℕ) → IsDistinct nat_eq xs → ((t : ℕ) → is_in t xs ≡ true → t < n) → length xs ≤ n
few_numbers n xs distinct below =
    let ones = sum_ones xs in
    let sum = distinct_total n xs (λ t. 1) distinct below in
    let le = total_le 0 n (λ k. cond (is_in k xs) 1 0) (λ k. 1) (λ k _ _. one_at_most (is_in k xs)) in
    let all = total_ones 0 n in
    omega (arith, ones, sum, le, all)
  where
    one_at_most : (b : Bool) → ◌≤◌ (cond b 1 0) 1
    one_at_most true = omega arith
    one_at_most false = omega arith

    total_ones : (k m : ℕ) → total k m (λ i. 1) ≡ m
    total_ones k zero = refl
    total_ones k (suc m) = let e = total_ones (suc k) m in omega (arith, e)

-- so few values stand at a vertex
pub few_held : (a : System ℕ ℕ) (n : ℕ) (ways : List (Arrow ℕ)) (rows outs : List (List ℕ)) (carried pending : List ℕ) → IsSystemIn (Below n) a → HasValues a → Keeps a n ways rows outs carried pending
    → (v : ℕ) → length (row rows v) ≤ a.native + 1
few_held a n ways rows outs carried pending inside values k v = few_numbers (a.native + 1) (row rows v) (k.distinct v) below
  where
    below : (t : ℕ) → is_in t (row rows v) ≡ true → t < a.native + 1
    below t h = let b = (solution_in (Below n) (λ y. y ≤ a.native) a inside (values_upto a values) (omega arith) t v (k.found t v h)).0 in omega (arith, b)

-- a list without items
pub no_items : {X : Type 0} (xs : List X) → length xs ≡ 0 → xs ≡ []
no_items [] e = refl
no_items (x ∷ xs) e = absurd (omega (arith, e))

-- where no vertex is pending, each value was carried over each way from its vertex
pub spent_all : (a : System ℕ ℕ) (n : ℕ) (rows outs : List (List ℕ)) (carried : List ℕ) (natives : List Bool) → IsSystemIn (Below n) a → HasValues a → Rests a n rows outs carried [] natives → spent n carried outs ≡ work_of a (row rows)
spent_all a n rows outs carried natives inside values r =
    spent_whole n rows outs carried r.ways (all_carried a n rows outs carried natives inside values r) r.keeps.leads below
    ∙ r.has_ways.same (λ way. length (row rows way.from))
    ∙ ap (λ at. sum_by (λ (way : Arrow ℕ). length (row rows way.from)) (all_ways a at)) (same_at a n rows outs carried natives inside values r)
  where
    below : (way : Arrow ℕ) → Contains r.ways way → way.from < n
    below way c = (reason_in (Below n) a (InSolution a) way inside (r.keeps.sound way c)).0
