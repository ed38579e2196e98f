-- The last edges of paths, one edge more.
use Rattle.std.proofs.Common.{◌≡◌, ℕ, ◌+◌, ◌<◌, ◌≤◌, inl, inr, true, false, List, length, set, sym, ◌∙◌, ap, arith}
use Rattle.std.proofs.lemmas.Bool.{cases_Bool, cases_eq}
use Rattle.std.proofs.lemmas.List.{length-set, get_or-set_same, get_or-set_other}
use Rattle.reach_path.specs.declared.lasts.Last.{Last}
use Rattle.reach_path.specs.Graphs.{Numbered, from, to}
use Rattle.reach_path.specs.Lasts.{AreLasts, IsFirst, last_at, last_of, lasts_with, leads_on, no_last}

earlier : (g : Numbered) (levels : List ℕ) (k v m : ℕ) → (to g k ≡ v → leads_on g levels k ≡ true → ⊥) → IsFirst g levels (k + 1) v m → IsFirst g levels k v m
earlier g levels k v m other h = record {
  from_k = omega (arith, h.from_k);
  there = h.there;
  callee = h.callee;
  on = h.on;
  before = λ j le lt callee on. elim (cases_eq j k) [
    | inl same ↦ other (ap (to g) (sym same) ∙ callee) (ap (leads_on g levels) (sym same) ∙ on)
    | inr apart ↦ h.before j (grind (arith, le, apart)) lt callee on
  ];
}

-- an edge that doesn't lead one level on changes nothing
passed : (g : Numbered) (levels : List ℕ) (k : ℕ) (lasts : List Last) → leads_on g levels k ≡ false → AreLasts g levels (k + 1) lasts → AreLasts g levels k lasts
passed g levels k lasts off h = record {
  size = h.size;
  callers = h.callers;
  first = λ v i le lt callee on. elim (cases_eq i k) [
    | inl same ↦ absurd (clash (sym off ∙ ap (leads_on g levels) (sym same) ∙ on))
    | inr apart ↦ (let f = h.first v i (grind (arith, le, apart)) lt callee on in (f.0, earlier g levels k v f.0 (λ _ yes. clash (sym off ∙ yes)) f.1, f.2))
  ];
}
  where
    clash : false ≡ true → ⊥
    clash e = cc e

-- one that does is the first
taken : (g : Numbered) (levels : List ℕ) (k : ℕ) (lasts : List Last) → k < length g.edges → to g k < g.nodes → from g k < g.nodes → leads_on g levels k ≡ true → AreLasts g levels (k + 1) lasts → AreLasts g levels k (set lasts (to g k) (last_at g k))
taken g levels k lasts lt callee_below caller_below on h =
    let here : last_of (set lasts (to g k) (last_at g k)) (to g k) ≡ last_at g k = get_or-set_same lasts (to g k) (last_at g k) no_last (omega (arith, callee_below, h.size)) in
    let other : (v : ℕ) → (v ≡ to g k → ⊥) → last_of (set lasts (to g k) (last_at g k)) v ≡ last_of lasts v = λ v apart. get_or-set_other lasts (to g k) v (last_at g k) no_last apart in
    record {
      size = length-set lasts (to g k) (last_at g k) ∙ h.size;
      callers = λ v below. elim (cases_eq v (to g k)) [
        | inl same ↦ omega (arith, caller_below, ap (λ (x : Last). x.caller) (ap (last_of (set lasts (to g k) (last_at g k))) same ∙ here))
        | inr apart ↦ omega (arith, h.callers v below, ap (λ (x : Last). x.caller) (other v apart))
      ];
      first = λ v i le inside callee leads. elim (cases_eq v (to g k)) [
        | inl same ↦ (k, record { from_k = omega arith; there = lt; callee = sym same; on = on; before = λ j lo hi _ _. absurd (omega (arith, lo, hi)) }, ap (last_of (set lasts (to g k) (last_at g k))) same ∙ here)
        | inr apart ↦ (let f = h.first v i (behind v i le callee apart) inside callee leads in
            (f.0, earlier g levels k v f.0 (λ e _. apart (sym e)) f.1, other v apart ∙ f.2))
      ];
    }
  where
    behind : (v i : ℕ) → k ≤ i → to g i ≡ v → (v ≡ to g k → ⊥) → k + 1 ≤ i
    behind v i le callee apart = elim (cases_eq i k) [ inl same ↦ absurd (apart (sym callee ∙ ap (to g) same)) | inr far ↦ grind (arith, le, far) ]

pub AreLasts-kept : (g : Numbered) (levels : List ℕ) (k : ℕ) (lasts : List Last) → k < length g.edges → to g k < g.nodes → from g k < g.nodes → AreLasts g levels (k + 1) lasts → AreLasts g levels k (lasts_with g levels lasts k)
AreLasts-kept g levels k lasts lt callee_below caller_below h = elim (cases_Bool (leads_on g levels k)) [
  | inl on ↦ rw on (taken g levels k lasts lt callee_below caller_below on h)
  | inr off ↦ rw off (passed g levels k lasts off h)
]
