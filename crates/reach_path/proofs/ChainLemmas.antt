-- The chains of one edge more.
use Rattle.std.proofs.Common.{◌≡◌, ℕ, ◌+◌, ◌<◌, inl, inr, List, [], ◌∷◌, ◌++◌, set, slice_index, sym, ◌∙◌, ap, subst, arith}
use Rattle.std.proofs.lemmas.Bool.{cases_eq}
use Rattle.std.proofs.lemmas.List.{length-set, length_push, get_or-set_same, get_or-set_other, get_or_append_left, get_or_push}
use Rattle.reach_path.specs.Graphs.{Numbered, from}
use Rattle.reach_path.specs.Chains.{AreChains, IsLastFrom}

-- behind the edge at place k it is the last one from its caller
newest : (g : Numbered) (k : ℕ) → IsLastFrom g (from g k) (k + 1) (k + 1)
newest g k = record {
  within = omega arith;
  here = λ i e. let same : k ≡ i = omega (arith, e) in ap (from g) (sym same);
  none_behind = λ i le lt _. absurd (omega (arith, le, lt));
}

-- and from another caller the last one stays
still : (g : Numbered) (u k next : ℕ) → (u ≡ from g k → ⊥) → IsLastFrom g u k next → IsLastFrom g u (k + 1) next
still g u k next other h = record {
  within = omega (arith, h.within);
  here = h.here;
  none_behind = λ i le lt e. elim (cases_eq i k) [
    | inl same ↦ other (sym e ∙ ap (from g) same)
    | inr apart ↦ h.none_behind i le (grind (arith, lt, apart)) e
  ];
}

pub AreChains-more : (g : Numbered) (k : ℕ) (heads nexts : List ℕ) → from g k < g.nodes → AreChains g k heads nexts → AreChains g (k + 1) (set heads (from g k) (k + 1)) (nexts ++ slice_index heads (from g k) ∷ [])
AreChains-more g k heads nexts lt h = record {
  heads_length = length-set heads (from g k) (k + 1) ∙ h.heads_length;
  nexts_length = length_push nexts (slice_index heads (from g k)) ∙ ap (λ n. n + 1) h.nexts_length;
  heads_are = λ u below. elim (cases_eq u (from g k)) [
    | inl same ↦ subst (λ w. IsLastFrom g w (k + 1) (slice_index (set heads (from g k) (k + 1)) w)) (sym same)
        (subst (IsLastFrom g (from g k) (k + 1)) (sym (get_or-set_same heads (from g k) (k + 1) 0 (omega (arith, lt, h.heads_length)))) (newest g k))
    | inr apart ↦ subst (IsLastFrom g u (k + 1)) (sym (get_or-set_other heads (from g k) u (k + 1) 0 apart)) (still g u k _ apart (h.heads_are u below))
  ];
  nexts_are = λ i below. elim (cases_eq i k) [
    | inl same ↦ subst (λ j. IsLastFrom g (from g j) j (slice_index (nexts ++ slice_index heads (from g k) ∷ []) j)) (sym same)
        (subst (IsLastFrom g (from g k) k) (sym (get_or_push nexts (slice_index heads (from g k)) 0 k h.nexts_length)) (h.heads_are (from g k) lt))
    | inr apart ↦ (let before : i < k = grind (arith, below, apart) in
        subst (IsLastFrom g (from g i) i) (sym (get_or_append_left nexts (slice_index heads (from g k) ∷ []) 0 i (omega (arith, before, h.nexts_length)))) (h.nexts_are i before))
  ];
}
