-- What the search and the last edges say of functions, levels and paths.
use Rattle.std.proofs.Common.{◌≡◌, ◌≢◌, ℕ, zero, suc, ◌+◌, ◌-◌, ◌<◌, ◌≤◌, inl, inr, true, List, [], ◌∷◌, ◌++◌, length, slice_index, nat_lt, nat_eq, sum, reverse, append_assoc, append-nil, Some, None, refl, sym, ◌∙◌, ap, subst, arith, lt-ltb, eq-eqb, eqb-true}
use Rattle.std.specs.Prelude.{All, Contains}
use Rattle.std.specs.List.Sorted.{IsStrictlySortedBy}
use Rattle.std.specs.declared.cmp.Ordering.{Ordering}
use Rattle.std.specs.declared.cmp.Ordering.TheVariants.{Less, Equal, Greater}
use Rattle.std.specs.Cmp.{nat_cmp_is}
use Rattle.std.specs.Ordering.{nat_cmp, ordering_then}
use Rattle.std.proofs.lemmas.Bool.{and_from, and_parts, cases_Bool, cases_order, cond-true, cond-false}
use Rattle.std.proofs.lemmas.List.{get_or_default, length-reverse, reverse-reverse}
use Rattle.std.proofs.lemmas.List.Elements.{All-contains, All-get_or, Contains-get_or}
use Rattle.std.proofs.lemmas.Map.Keys.{Less-from_sorted}
use Rattle.jam_base.specs.declared.edge.Edge.{Edge}
use Rattle.jam_base.specs.declared.edge.FunctionRef.{FunctionRef}
use Rattle.jam_base.specs.Edges.{edge_order}
use Rattle.reach_path.specs.declared.lasts.Last.{Last}
use Rattle.reach_path.specs.Graphs.{Numbered, IsNumbered, HasSteps, edge_at, from, no_edge, to}
use Rattle.reach_path.specs.Lasts.{AreLasts, IsFirst, last_of, leads_on}
use Rattle.reach_path.specs.Levels.{HasWalk, IsBetween, IsFunction, IsLastEdge, IsLevel, IsPath, IsReachable, IsWayBack, body_of, path_order}
use Rattle.reach_path.specs.Numbers.{function_at, is_numbered, number_of, starts_from}
use Rattle.reach_path.specs.Reached.{Reached, edge_into, path_at, path_to, way_back}
use Rattle.reach_path.specs.Search.{AreLevels}
use Rattle.reach_path.proofs.NumberLemmas.{function_at-number, function_there, module_there, number_fits, numbered, one_number}

-- the edges, with numbers for the functions
abbrev pub numbers : List ℕ → List Edge → ℕ → Numbered
numbers counts edges entry = record { starts = starts_from 0 counts; edges = edges; nodes = sum counts; begin = slice_index (starts_from 0 counts) entry }

-- an edge stands at a place
placed : (edges : List Edge) (e : Edge) → Contains edges e → (i : ℕ) × (i < length edges) × (edge_at edges i ≡ e)
placed edges e h = (h.0, h.1, get_or_default edges h.0 no_edge e h.1 ∙ h.2)

between_at : (counts : List ℕ) (edges : List Edge) (i : ℕ) → All (IsBetween counts) edges → i < length edges → IsBetween counts (edge_at edges i)
between_at counts edges i all lt = All-get_or (IsBetween counts) edges i no_edge lt all

pub numbers_fit : (counts : List ℕ) (edges : List Edge) (entry : ℕ) → length edges ≤ 4294967295 → sum counts < 4294967296 → All (IsBetween counts) edges → IsFunction counts (body_of entry) → IsNumbered (numbers counts edges entry)
numbers_fit counts edges entry few fits all body = record {
  few = few;
  fits = fits;
  callers = λ i lt. module_there counts _ (between_at counts edges i all lt).caller;
  callees = λ i lt. module_there counts _ (between_at counts edges i all lt).callee;
  from_below = λ i lt. number_fits counts _ (between_at counts edges i all lt).caller;
  to_below = λ i lt. number_fits counts _ (between_at counts edges i all lt).callee;
  begin_below = omega (arith, number_fits counts (body_of entry) body);
}

-- edges to one function go in the order of all edges
ordered : (a b : Edge) → edge_order a b ≡ Less → a.callee ≡ b.callee → path_order a b ≢ Greater
ordered a b less same = go (nat_cmp a.caller.module b.caller.module) (nat_cmp a.offset b.offset) (nat_cmp a.callee.module b.callee.module) (nat_cmp a.callee.function b.callee.function) (nat_cmp a.caller.function b.caller.function)
    (sym (nat_cmp_is a.callee.module b.callee.module Equal (ap (λ (f : FunctionRef). f.module) same))) (sym (nat_cmp_is a.callee.function b.callee.function Equal (ap (λ (f : FunctionRef). f.function) same))) less
  where
    go : (m o cm cf f : Ordering) → cm ≡ Equal → cf ≡ Equal → ordering_then m (ordering_then o (ordering_then cm (ordering_then cf f))) ≡ Less → ordering_then m (ordering_then o f) ≢ Greater
    go Less o cm cf f em ef less greater = cc greater
    go Greater o cm cf f em ef less greater = cc less
    go Equal Less cm cf f em ef less greater = cc greater
    go Equal Greater cm cf f em ef less greater = cc less
    go Equal Equal Less cf f em ef less greater = cc em
    go Equal Equal Greater cf f em ef less greater = cc em
    go Equal Equal Equal Less f em ef less greater = cc ef
    go Equal Equal Equal Greater f em ef less greater = cc ef
    go Equal Equal Equal Equal f em ef less greater = cc (less, greater)

same_order : (a b : Edge) → a ≡ b → path_order a b ≢ Greater
same_order a b e greater = go (nat_cmp a.caller.module b.caller.module) (nat_cmp a.offset b.offset) (nat_cmp a.caller.function b.caller.function)
    (sym (nat_cmp_is a.caller.module b.caller.module Equal (ap (λ (x : Edge). x.caller.module) e))) (sym (nat_cmp_is a.offset b.offset Equal (ap (λ (x : Edge). x.offset) e)))
    (sym (nat_cmp_is a.caller.function b.caller.function Equal (ap (λ (x : Edge). x.caller.function) e))) greater
  where
    go : (m o f : Ordering) → m ≡ Equal → o ≡ Equal → f ≡ Equal → ordering_then m (ordering_then o f) ≡ Greater → ⊥
    go m o f em eo ef greater = cc (ap (λ x. ordering_then x (ordering_then o f)) (sym em) ∙ greater, eo, ef)

module _ (counts : List ℕ) (edges : List Edge) (entry : ℕ) (all : All (IsBetween counts) edges) (body : IsFunction counts (body_of entry)) where
  abbrev number : FunctionRef → ℕ
  number = number_of (starts_from 0 counts)

  abbrev g : Numbered
  g = numbers counts edges entry

  -- what a walk leads to is a function
  pub walked : (n : ℕ) (f : FunctionRef) → HasWalk edges entry n f → IsFunction counts f
  walked zero f e = subst (IsFunction counts) (sym e) body
  walked (suc n) f w = subst (IsFunction counts) w.2 (All-contains (IsBetween counts) edges w.0 all w.1).callee

  begins : number (body_of entry) ≡ g.begin
  begins = omega arith

  pub steps_of_walk : (n : ℕ) (f : FunctionRef) → HasWalk edges entry n f → HasSteps g n (number f)
  steps_of_walk zero f e = ap number e ∙ begins
  steps_of_walk (suc n) f w =
      let at = placed edges w.0 w.1 in
      (at.0, at.1, ap (λ (e : Edge). number e.callee) at.2 ∙ ap number w.2, subst (HasSteps g n) (sym (ap (λ (e : Edge). number e.caller) at.2)) (steps_of_walk n w.0.caller w.3))

  pub walk_of_steps : (n : ℕ) (f : FunctionRef) → IsFunction counts f → HasSteps g n (number f) → HasWalk edges entry n f
  walk_of_steps zero f is e = one_number counts f (body_of entry) is body (e ∙ sym begins)
  walk_of_steps (suc n) f is s =
      let edge = edge_at edges s.0 in
      let between = between_at counts edges s.0 all s.1 in
      (edge, Contains-get_or edges s.0 no_edge s.1, one_number counts edge.callee f between.callee is s.2, walk_of_steps n edge.caller between.caller s.3)

  -- what has steps is the number of a function
  pub function_of_steps : (n v : ℕ) → HasSteps g n v → (f : FunctionRef) × IsFunction counts f × (number f ≡ v)
  function_of_steps zero v e = (body_of entry, body, begins ∙ sym e)
  function_of_steps (suc n) v s = ((edge_at edges s.0).callee, (between_at counts edges s.0 all s.1).callee, s.2)

  module _ (levels : List ℕ) (h : AreLevels g levels) where
    pub is_level : (n : ℕ) (f : FunctionRef) → IsFunction counts f → slice_index levels (number f) ≡ n + 1 → IsLevel edges entry f n
    is_level n f is e = record {
      walk = walk_of_steps n f is (h.steps (number f) n e);
      least = λ m w. omega (arith, e, (h.least (number f) m (steps_of_walk m f w)).1);
    }

    pub has_level : (n : ℕ) (f : FunctionRef) → HasWalk edges entry n f → 0 < slice_index levels (number f)
    has_level n f w = (h.least (number f) n (steps_of_walk n f w)).0

    pub level_is : (n : ℕ) (f : FunctionRef) → IsLevel edges entry f n → slice_index levels (number f) ≡ n + 1
    level_is n f l =
        let is = walked n f l.walk in
        let low = h.least (number f) n (steps_of_walk n f l.walk) in
        let k = slice_index levels (number f) - 1 in
        let here : slice_index levels (number f) ≡ k + 1 = omega (arith, low.0) in
        omega (arith, here, low.1, l.least k (walk_of_steps k f is (h.steps (number f) k here)))

    -- an edge from one level to the next
    next_level : (i k : ℕ) → slice_index levels (from g i) ≡ k + 1 → slice_index levels (to g i) ≡ k + 1 + 1 → leads_on g levels i ≡ true
    next_level i k low high = and_from _ _ (lt-ltb 0 (slice_index levels (from g i)) (omega (arith, low))) (eq-eqb (slice_index levels (to g i)) (slice_index levels (from g i) + 1) (omega (arith, low, high)))

    level_behind : (i k : ℕ) → leads_on g levels i ≡ true → slice_index levels (to g i) ≡ k + 1 + 1 → slice_index levels (from g i) ≡ k + 1
    level_behind i k on high =
        let both = and_parts (nat_lt 0 (slice_index levels (from g i))) (nat_eq (slice_index levels (to g i)) (slice_index levels (from g i) + 1)) on in
        omega (arith, high, eqb-true (slice_index levels (to g i)) (slice_index levels (from g i) + 1) both.1)

    -- some edge leads one level on to what isn't the entry's body
    some_edge : (k v : ℕ) → slice_index levels v ≡ k + 1 + 1 → (i : ℕ) × (i < length edges) × (to g i ≡ v) × (leads_on g levels i ≡ true)
    some_edge k v e =
        let s : HasSteps g (suc k) v = h.steps v (suc k) (omega (arith, e)) in
        let low = h.least (from g s.0) k s.3 in
        let j = slice_index levels (from g s.0) - 1 in
        let here : slice_index levels (from g s.0) ≡ j + 1 = omega (arith, low.0) in
        let on : HasSteps g (suc j) v = (s.0, s.1, s.2, h.steps (from g s.0) j here) in
        let least = h.least v (suc j) on in
        (s.0, s.1, s.2, next_level s.0 k (omega (arith, here, low.1, least.1, e)) (ap (slice_index levels) s.2 ∙ e))

    module _ (sorted : IsStrictlySortedBy edge_order edges) (lasts : List Last) (l : AreLasts g levels 0 lasts) where
      abbrev r : Reached
      r = record { starts = starts_from 0 counts; levels = levels; lasts = lasts }

      -- the last edge of the path to f, and where it stands
      last_edge : (k : ℕ) (f : FunctionRef) → IsFunction counts f → slice_index levels (number f) ≡ k + 1 + 1
          → (m : ℕ) × (m < length edges) × (edge_into r (number f) ≡ edge_at edges m) × IsLastEdge edges entry f k (edge_at edges m) × ((last_of lasts (number f)).caller ≡ number (edge_at edges m).caller)
      last_edge k f is e =
          let some = some_edge k (number f) e in
          let found = l.first (number f) some.0 (omega arith) some.1 some.2 some.3 in
          let m = found.0 in
          let first = found.1 in
          let between = between_at counts edges m all first.there in
          let callee : (edge_at edges m).callee ≡ f = one_number counts (edge_at edges m).callee f between.callee is first.callee in
          let caller_is : (last_of lasts (number f)).caller ≡ number (edge_at edges m).caller = ap (λ (x : Last). x.caller) found.2 in
          let caller : function_at (starts_from 0 counts) (last_of lasts (number f)).caller ≡ (edge_at edges m).caller = ap (function_at (starts_from 0 counts)) caller_is ∙ function_at-number counts (edge_at edges m).caller between.caller in
          let offset : (last_of lasts (number f)).offset ≡ (edge_at edges m).offset = ap (λ (x : Last). x.offset) found.2 in
          let into : function_at (starts_from 0 counts) (number f) ≡ (edge_at edges m).callee = function_at-number counts f is ∙ sym callee in
          let behind = level_behind m k first.on (ap (slice_index levels) first.callee ∙ e) in (
            m,
            first.there,
            λ i. record { caller = caller i; offset = offset i; callee = into i },
            record {
              there = Contains-get_or edges m no_edge first.there;
              callee = callee;
              nearer = is_level k (edge_at edges m).caller between.caller behind;
              least = λ other has to_f nearer. least_edge k f e m first callee other (placed edges other has) to_f nearer;
            },
            caller_is,
          )
        where
          least_edge : (k : ℕ) (f : FunctionRef) → slice_index levels (number f) ≡ k + 1 + 1 → (m : ℕ) → IsFirst g levels 0 (number f) m → (edge_at edges m).callee ≡ f → (other : Edge) → (j : ℕ) × (j < length edges) × (edge_at edges j ≡ other) → other.callee ≡ f → IsLevel edges entry other.caller k → path_order (edge_at edges m) other ≢ Greater
          least_edge k f e m first callee other (j, lt, at) to_f nearer =
              let into : to g j ≡ number f = ap (λ (x : Edge). number x.callee) at ∙ ap number to_f in
              let low : slice_index levels (from g j) ≡ k + 1 = ap (λ (x : Edge). slice_index levels (number x.caller)) at ∙ level_is k other.caller nearer in
              let on = next_level j k low (ap (slice_index levels) into ∙ e) in
              elim (cases_order m j) [
                | inl same ↦ same_order (edge_at edges m) other (ap (edge_at edges) same ∙ at)
                | inr (inl less) ↦ ordered (edge_at edges m) other (ap (edge_order (edge_at edges m)) (sym at) ∙ Less-from_sorted edge_order edges m j no_edge sorted less lt) (callee ∙ sym to_f)
                | inr (inr more) ↦ (λ _. first.before j (omega arith) more into on)
              ]

      pub length-way_back : (n v : ℕ) → length (way_back r n v) ≡ n
      length-way_back zero v = refl
      length-way_back (suc n) v = omega (arith, length-way_back n (last_of lasts v).caller)

      pub is_way_back : (n : ℕ) (f : FunctionRef) → IsFunction counts f → slice_index levels (number f) ≡ n + 1 → IsWayBack edges entry f (way_back r n (number f))
      is_way_back zero f is e = walk_of_steps zero f is (h.steps (number f) zero e)
      is_way_back (suc n) f is e =
          let last = last_edge n f is (omega (arith, e)) in
          let edge = edge_at edges last.0 in
          let between = between_at counts edges last.0 all last.1 in
          let level = level_is n edge.caller last.3.nearer in
          let rest = subst (λ v. IsWayBack edges entry edge.caller (way_back r n v)) (sym last.4) (is_way_back n edge.caller between.caller level) in
          subst (λ (x : Edge). IsLastEdge edges entry f (length (way_back r n (last_of lasts (number f)).caller)) x × IsWayBack edges entry x.caller (way_back r n (last_of lasts (number f)).caller)) (sym last.2)
          (subst (λ k. IsLastEdge edges entry f k edge) (sym (length-way_back n (last_of lasts (number f)).caller)) last.3, rest)

      -- what is found of a number
      found_at : (n : ℕ) (f : FunctionRef) (path : List Edge) → IsFunction counts f → slice_index levels (number f) ≡ n → path_at r n (number f) ≡ Some path → IsPath edges entry f path
      found_at zero f path is e some = cc some
      found_at (suc n) f path is e some =
          let back = way_back r n (number f) in
          let path_is : path ≡ reverse back = sym (unwrapped some) in
          let size : length path ≡ n = ap length path_is ∙ length-reverse back ∙ length-way_back n (number f) in
          record {
            level = subst (IsLevel edges entry f) (sym size) (is_level n f is (omega (arith, e)));
            from_end = subst (IsWayBack edges entry f) (sym (ap reverse path_is ∙ reverse-reverse back)) (is_way_back n f is (omega (arith, e)));
          }
        where
          unwrapped : {x y : List Edge} → Some x ≡ Some y → x ≡ y
          unwrapped e = cc e

      none_at : (n : ℕ) (f : FunctionRef) → slice_index levels (number f) ≡ n → path_at r n (number f) ≡ None → IsReachable edges entry f → ⊥
      none_at zero f e none (k, level) = absurd (omega (arith, e, has_level k f level.walk))
      none_at (suc n) f e none reachable = cc none

      pub path_found : (f : FunctionRef) (path : List Edge) → path_to r f ≡ Some path → IsPath edges entry f path
      path_found f path some = elim (cases_Bool (is_numbered (starts_from 0 counts) f)) [
        | inl there ↦ found_at (slice_index levels (number f)) f path (function_there counts f there) refl (sym (cond-true (is_numbered (starts_from 0 counts) f) _ None there) ∙ some)
        | inr off ↦ cc (sym (cond-false (is_numbered (starts_from 0 counts) f) (path_at r (slice_index levels (number f)) (number f)) None off) ∙ some)
      ]

      pub none_found : (f : FunctionRef) → path_to r f ≡ None → IsReachable edges entry f → ⊥
      none_found f none reachable =
          let is = walked reachable.0 f reachable.1.walk in
          none_at (slice_index levels (number f)) f refl (sym (cond-true (is_numbered (starts_from 0 counts) f) _ None (numbered counts f is)) ∙ none) reachable

-- one step more of the way back
pub way_back-onward : (r : Reached) (count k at : ℕ) (whole edges : List Edge) (caller callee : FunctionRef) (last : Last) → k < count → last ≡ last_of r.lasts at
    → caller ≡ function_at r.starts last.caller → callee ≡ function_at r.starts at → edges ++ way_back r (count - k) at ≡ whole
    → (edges ++ record { caller = caller; offset = last.offset; callee = callee } ∷ []) ++ way_back r (count - (k + 1)) last.caller ≡ whole
way_back-onward r count k at whole edges caller callee last lt last_is caller_is callee_is way =
    let n = count - (k + 1) in
    let more : count - k ≡ suc n = omega (arith, lt) in
    let edge : Edge = record { caller = caller; offset = last.offset; callee = callee } in
    let from_last : caller ≡ function_at r.starts (last_of r.lasts at).caller = caller_is ∙ ap (λ (x : Last). function_at r.starts x.caller) last_is in
    let edge_is : edge ≡ edge_into r at = λ i. record { caller = from_last i; offset = (last_is i).offset; callee = callee_is i } in
    append_assoc edges (edge ∷ []) (way_back r n last.caller)
    ∙ ap (λ (x : Edge). edges ++ x ∷ way_back r n last.caller) edge_is
    ∙ ap (λ (x : Last). edges ++ edge_into r at ∷ way_back r n x.caller) last_is
    ∙ ap (λ m. edges ++ way_back r m at) (sym more) ∙ way

pub way_back-end : (r : Reached) (count k at : ℕ) (whole edges : List Edge) → count ≤ k → edges ++ way_back r (count - k) at ≡ whole → edges ≡ whole
way_back-end r count k at whole edges le way =
    let none : count - k ≡ 0 = omega (arith, le) in
    sym (append-nil edges) ∙ ap (λ m. edges ++ way_back r m at) (sym none) ∙ way
