-- Steps of the search, and what it ends with.
use Rattle.std.proofs.Common.{◌≡◌, ℕ, zero, suc, ◌+◌, ◌<◌, ◌≤◌, inl, inr, cond, List, [], ◌∷◌, ◌++◌, length, set, slice_index, get_or, nat_eq, refl, sym, ◌∙◌, ap, subst, arith, ne_eqb}
use Rattle.std.proofs.lemmas.Bool.{cases_eq, cases_lt}
use Rattle.std.proofs.lemmas.List.{length-set, length_push, get_or-set_same, get_or-set_other, get_or_append_left, get_or_push}
use Rattle.std.proofs.lemmas.List.Sums.{sum_by-set}
use Rattle.reach_path.specs.Graphs.{Numbered, from, to, HasSteps}
use Rattle.reach_path.specs.Chains.{IsLastFrom}
use Rattle.reach_path.specs.Search.{AreLevels, IsFollowed, IsSearch, Offered, without_level}

abbrev level : List ℕ → ℕ → ℕ
level = slice_index

-- one function fewer is without a level
pub count_set : (levels : List ℕ) (v n : ℕ) → v < length levels → level levels v ≡ 0 → 0 < n → without_level (set levels v n) + 1 ≡ without_level levels
count_set levels v n lt none pos =
    let f : ℕ → ℕ = λ l. cond (nat_eq l 0) 1 0 in
    let was : f (get_or levels v 0) ≡ 1 = ap f none in
    let now : f n ≡ 0 = ap (λ b. cond b 1 0) (ne_eqb n 0 (λ e. absurd (omega (arith, e, pos)))) in
    omega (arith, sum_by-set f levels v n 0 lt, was, now)

-- a function without a level gets the next one
pub IsSearch-got : (g : Numbered) (i : ℕ) (levels order : List ℕ) (v n : ℕ) → IsSearch g i levels order → i < length order → v < g.nodes
    → (e : ℕ) → e < length g.edges → from g e ≡ level order i → to g e ≡ v → level levels v ≡ 0 → n ≡ level levels (level order i) + 1
    → IsSearch g i (set levels v n) (order ++ v ∷ [])
IsSearch-got g i levels order v n h here below e lt caller callee none is =
    let new = set levels v n in
    let more = order ++ v ∷ [] in
    let grown : length more ≡ length order + 1 = length_push order v in
    let now : level new v ≡ n = get_or-set_same levels v n 0 (omega (arith, below, h.size)) in
    let other : (w : ℕ) → (w ≡ v → ⊥) → level new w ≡ level levels w = λ w apart. get_or-set_other levels v w n 0 apart in
    let apart : (w : ℕ) → 0 < level levels w → w ≡ v → ⊥ = λ w pos same. absurd (omega (arith, pos, ap (level levels) same, none)) in
    let old : (j : ℕ) → j < length order → level more j ≡ level order j = λ j l. get_or_append_left order (v ∷ []) 0 j l in
    let last : (j : ℕ) → (j < length order → ⊥) → j < length more → level more j ≡ v = λ j past l. get_or_push order v 0 j (sym (length_is j past l grown)) in
    let kept : (j : ℕ) → j < length order → level new (level more j) ≡ level levels (level order j) = λ j l.
    ap (level new) (old j l) ∙ other (level order j) (apart (level order j) (h.leveled j l)) in
    let ended : (j : ℕ) → (j < length order → ⊥) → j < length more → level new (level more j) ≡ n = λ j past l. ap (level new) (last j past l) ∙ now in
    record {
      fits = h.fits;
      size = length-set levels v n ∙ h.size;
      begun = other g.begin (apart g.begin (omega (arith, h.begun))) ∙ h.begun;
      steps = λ w m l. elim (cases_eq w v) [
        | inl same ↦ subst (HasSteps g m) (sym same) (onward m (omega (arith, sym l, ap (level new) same, now, is)))
        | inr far ↦ h.steps w m (sym (other w far) ∙ l)
      ];
      queued = λ w pos. elim (cases_eq w v) [
        | inl same ↦ (length order, omega (arith, grown), get_or_push order v 0 (length order) refl ∙ sym same)
        | inr far ↦ (let q = h.queued w (omega (arith, pos, other w far)) in (q.0, omega (arith, q.1, grown), old q.0 q.1 ∙ q.2))
      ];
      members = λ j l. elim (cases_lt j (length order)) [
        | inl before ↦ omega (arith, old j before, h.members j before)
        | inr past ↦ omega (arith, last j (λ b. absurd (omega (arith, b, past))) l, below)
      ];
      leveled = λ j l. elim (cases_lt j (length order)) [
        | inl before ↦ omega (arith, kept j before, h.leveled j before)
        | inr past ↦ omega (arith, ended j (λ b. absurd (omega (arith, b, past))) l, is)
      ];
      rising = λ j k le l. elim (cases_lt k (length order)) [
        | inl before ↦ omega (arith, kept k before, kept j (omega (arith, le, before)), h.rising j k le before)
        | inr past ↦ (let high = ended k (λ b. absurd (omega (arith, b, past))) l in elim (cases_lt j (length order)) [
          | inl front ↦ omega (arith, high, kept j front, h.near (level order j) here, is)
          | inr behind ↦ omega (arith, high, ended j (λ b. absurd (omega (arith, b, behind))) (omega (arith, le, l)))
        ])
      ];
      near = λ w _. elim (cases_eq w v) [
        | inl same ↦ omega (arith, ap (level new) same, now, is, kept i here)
        | inr far ↦ omega (arith, other w far, kept i here, h.near w here)
      ];
      followed = λ j d before inside edge leaves.
          let front : j < length order = omega (arith, before, here) in
          let f = h.followed j d before front edge (leaves ∙ old j front) in
          let same = other (to g d) (apart (to g d) f.0) in
          (omega (arith, same, f.0), omega (arith, same, f.1, kept j front));
      counted = omega (arith, grown, count_set levels v n (omega (arith, below, h.size)) none (omega (arith, is)), h.counted);
      low = λ w. elim (cases_eq w v) [
        | inl same ↦ omega (arith, ap (level new) same, now, is, h.low (level order i), grown)
        | inr far ↦ omega (arith, other w far, h.low w, grown)
      ];
    }
  where
    length_is : (j : ℕ) → (j < length order → ⊥) → j < length (order ++ v ∷ []) → length (order ++ v ∷ []) ≡ length order + 1 → j ≡ length order
    length_is j past l grown = elim (cases_lt j (length order)) [ inl b ↦ absurd (past b) | inr le ↦ omega (arith, le, l, grown) ]

    onward : (m : ℕ) → m ≡ level levels (level order i) → HasSteps g m v
    onward zero z = absurd (omega (arith, z, h.leveled i here))
    onward (suc m) z = (e, lt, callee, h.steps (from g e) m (ap (level levels) caller ∙ omega (arith, z)))

-- a function that is offered the level behind that of the function at place i
pub IsSearch-offered : (g : Numbered) (i : ℕ) (levels order : List ℕ) (v n : ℕ) (new_levels new_order : List ℕ) → IsSearch g i levels order → i < length order → v < g.nodes
    → (e : ℕ) → e < length g.edges → from g e ≡ level order i → to g e ≡ v → n ≡ level levels (level order i) + 1
    → Offered v n levels order new_levels new_order → IsSearch g i new_levels new_order
IsSearch-offered g i levels order v n new_levels new_order h here below e lt caller callee is o = elim (cases_lt 0 (level levels v)) [
  | inl pos ↦ (let s = o.had pos in subst (λ xs. IsSearch g i xs new_order) (sym s.0) (subst (IsSearch g i levels) (sym s.1) h))
  | inr le ↦ (let s = o.got (omega (arith, le)) in subst (λ xs. IsSearch g i xs new_order) (sym s.0) (subst (IsSearch g i (set levels v n)) (sym s.1)
      (IsSearch-got g i levels order v n h here below e lt caller callee (omega (arith, le)) is)))
]

-- it has a level then, and every other keeps its own
pub offered_here : (v n : ℕ) (levels order new_levels new_order : List ℕ) → v < length levels → 0 < n → Offered v n levels order new_levels new_order → 0 < level new_levels v
offered_here v n levels order new_levels new_order lt pos o = elim (cases_lt 0 (level levels v)) [
  | inl had ↦ omega (arith, had, ap (λ xs. level xs v) (o.had had).0)
  | inr le ↦ omega (arith, pos, ap (λ xs. level xs v) (o.got (omega (arith, le))).0, get_or-set_same levels v n 0 lt)
]

pub offered_kept : (v n : ℕ) (levels order new_levels new_order : List ℕ) (w : ℕ) → Offered v n levels order new_levels new_order → 0 < level levels w → level new_levels w ≡ level levels w
offered_kept v n levels order new_levels new_order w o pos = elim (cases_lt 0 (level levels v)) [
  | inl had ↦ ap (λ xs. level xs w) (o.had had).0
  | inr le ↦ ap (λ xs. level xs w) (o.got (omega (arith, le))).0 ∙ get_or-set_other levels v w n 0 (λ same. absurd (omega (arith, pos, le, ap (level levels) same)))
]

pub offered_order : (v n : ℕ) (levels order new_levels new_order : List ℕ) (i : ℕ) → Offered v n levels order new_levels new_order → i < length order → (i < length new_order) × (level new_order i ≡ level order i)
offered_order v n levels order new_levels new_order i o lt = elim (cases_lt 0 (level levels v)) [
  | inl had ↦ (let s = (o.had had).1 in (omega (arith, lt, ap length s), ap (λ xs. level xs i) s))
  | inr le ↦ (let s = (o.got (omega (arith, le))).1 in (omega (arith, lt, ap length s, length_push order v), ap (λ xs. level xs i) s ∙ get_or_append_left order (v ∷ []) 0 i lt))
]

-- the edges from u at the next place of its chain and behind it have been followed too
pub IsFollowed-next : (g : Numbered) (u m next : ℕ) (levels : List ℕ) → from g m ≡ u → m < length g.edges → 0 < level levels (to g m) → IsFollowed g u (m + 1) levels → IsLastFrom g (from g m) m next → IsFollowed g u next levels
IsFollowed-next g u m next levels leaves lt here h last e le inside caller = elim (cases_lt e m) [
  | inl before ↦ absurd (last.none_behind e le before (caller ∙ sym leaves))
  | inr past ↦ elim (cases_eq e m) [
    | inl same ↦ omega (arith, here, ap (λ x. level levels (to g x)) same)
    | inr apart ↦ h e (grind (arith, past, apart)) inside caller
  ]
]

-- where none waits any more, all levels are there
pub AreLevels-end : (g : Numbered) (i : ℕ) (levels order : List ℕ) → IsSearch g i levels order → length order ≤ i → AreLevels g levels
AreLevels-end g i levels order h past = record { size = h.size; steps = h.steps; least = least }
  where
    least : (v n : ℕ) → HasSteps g n v → (0 < level levels v) × (level levels v ≤ n + 1)
    least v zero is = (omega (arith, ap (level levels) is, h.begun), omega (arith, ap (level levels) is, h.begun))
    least v (suc n) (e, lt, callee, steps) =
        let before = least (from g e) n steps in
        let q = h.queued (from g e) before.0 in
        let f = h.followed q.0 e (omega (arith, q.1, past)) q.1 lt (sym q.2) in
        let here = ap (level levels) callee in
        let there = ap (level levels) q.2 in
        (omega (arith, f.0, here), omega (arith, f.1, here, there, before.1))

-- there is room for the next level
pub room : (g : Numbered) (i : ℕ) (levels order : List ℕ) (v w : ℕ) → IsSearch g i levels order → v < g.nodes → level levels v ≡ 0 → level levels w + 1 < 4294967296
room g i levels order v w h below none = omega (arith, h.low w, h.counted, count_set levels v 1 (omega (arith, below, h.size)) none (omega arith), h.fits)

-- while the edges of the function u at place i are followed, which has this level plus 1: those at the next place and behind it have been
pub record Following (g : Numbered) (i u l next : ℕ) (levels order : List ℕ) : Type 0 where
  pub search : IsSearch g i levels order
  pub here : i < length order
  pub leaves : level order i ≡ u
  pub level_is : level levels u ≡ l
  pub within : next ≤ length g.edges
  pub caller : (m : ℕ) → next ≡ m + 1 → from g m ≡ u
  pub followed : IsFollowed g u next levels

pub Following-more : (g : Numbered) (i u l m next : ℕ) (levels order new_levels new_order : List ℕ) → m < length g.edges → to g m < g.nodes → Following g i u l (m + 1) levels order
    → Offered (to g m) (l + 1) levels order new_levels new_order → IsLastFrom g (from g m) m next → Following g i u l next new_levels new_order
Following-more g i u l m next levels order new_levels new_order lt below h o last =
    let u_is = h.caller m refl in
    let kept = offered_kept (to g m) (l + 1) levels order new_levels new_order in
    let place = offered_order (to g m) (l + 1) levels order new_levels new_order i o h.here in
    record {
      search = IsSearch-offered g i levels order (to g m) (l + 1) new_levels new_order h.search h.here below m lt (u_is ∙ sym h.leaves) refl
          (ap (λ n. n + 1) (sym h.level_is ∙ ap (level levels) (sym h.leaves))) o;
      here = place.0;
      leaves = place.1 ∙ h.leaves;
      level_is = kept u o (subst (λ w. 0 < level levels w) h.leaves (h.search.leveled i h.here)) ∙ h.level_is;
      within = omega (arith, last.within, lt);
      caller = λ k e. last.here k e ∙ u_is;
      followed = IsFollowed-next g u m next new_levels u_is lt (offered_here (to g m) (l + 1) levels order new_levels new_order (omega (arith, below, h.search.size)) (omega arith) o)
          (λ e le inside leaves. let had = h.followed e le inside leaves in omega (arith, had, kept (to g e) o had)) last;
    }
