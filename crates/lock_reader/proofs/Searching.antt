-- A search by a text among items whose texts ascend.
use Rattle.std.proofs.Common.{◌≡◌, ◌↔◌, ℕ, ◌+◌, ◌<◌, ◌≤◌, ◌⊎◌, inl, inr, false, List, [], map, length, get_or, Option, Some, None, refl, sym, ap, subst, ◌∙◌, arith}
use Rattle.std.specs.Prelude.{slice_get}
use Rattle.std.specs.List.{HoldsAt}
use Rattle.std.specs.List.Sorted.{IsSortedBy, IsStrictlySortedBy, IsPartitionPoint, IsNonDecreasingBy}
use Rattle.std.specs.Cmp.Lexicographic.{slice_cmp, nat_list_cmp_total}
use Rattle.std.specs.Ordering.{nat_cmp, ordering_index, ordering_reverse, is_lt}
use Rattle.std.specs.Option.{option_map}
use Rattle.std.specs.declared.cmp.Ordering.{Ordering}
use Rattle.std.specs.declared.cmp.Ordering.TheVariants.{Less, Equal, Greater}
use Rattle.std.proofs.lemmas.Cmp.{tied_itself}
use Rattle.std.proofs.lemmas.Option.{slice_get-map, slice_get_within, slice_get_cases, get_or_from_slice_get, same_Some, none-some}
use Rattle.std.proofs.lemmas.List.{length-map, get_or-map}
use Rattle.std.proofs.lemmas.List.Sorted.{searchable_from_sorted}
use Rattle.std.proofs.lemmas.Map.Keys.{Less-from_sorted}
use Rattle.std.proofs.lemmas.Map.Lookups.{exact_bytes}

abbrev pub order : List ℕ → List ℕ → Ordering
order = slice_cmp nat_cmp

no_less : Less ≡ Equal → ⊥
no_less e = cc

no_greater : Greater ≡ Equal → ⊥
no_greater e = cc

not_less : (a b : Ordering) → a ≡ ordering_reverse b → b ≡ Less → is_lt a ≡ false
not_less a b e h = ap is_lt (e ∙ ap ordering_reverse h)

module _ {X : Type 0} (key : X → List ℕ) where
  -- texts ascend
  abbrev pub AscendBy : List X → Type 0
  AscendBy xs = IsStrictlySortedBy order (map key xs)

  key_at : (xs : List X) (i : ℕ) (a : X) (d : List ℕ) → slice_get xs i ≡ Some a → get_or (map key xs) i d ≡ key a
  key_at xs i a d e = get_or_from_slice_get (map key xs) i (key a) d (slice_get-map key xs i ∙ ap (option_map key) e)

  -- none stands before its equal
  not_before : (xs : List X) (i j : ℕ) (a b : X) → AscendBy xs → slice_get xs i ≡ Some a → slice_get xs j ≡ Some b → key a ≡ key b → i < j → ⊥
  not_before xs i j a b sorted at there same lt =
      let within : j < length (map key xs) = subst (λ n. j < n) (sym (length-map xs key)) (slice_get_within xs j b there) in
      let less : order (key a) (key b) ≡ Less =
      sym (λ k. order (key_at xs i a [] at k) (key_at xs j b [] there k)) ∙ Less-from_sorted order (map key xs) i j [] sorted lt within in
      no_less (sym less ∙ ap (λ p. order p (key b)) same ∙ tied_itself nat_list_cmp_total (key b))

  -- so a text stands at one place
  pub one_place : (xs : List X) (i j : ℕ) (a b : X) → AscendBy xs → slice_get xs i ≡ Some a → slice_get xs j ≡ Some b → key a ≡ key b → i ≡ j
  one_place xs i j a b sorted at there same =
      three (λ lt. not_before xs i j a b sorted at there same lt) (λ lt. not_before xs j i b a sorted there at (sym same) lt)
    where
      three : (i < j → ⊥) → (j < i → ⊥) → i ≡ j
      three p q = grind (arith, p, q)

  -- a search that finds a place finds an item with the text
  pub found_item : (xs : List X) (text : List ℕ) (i : ℕ) → i < length xs → HoldsAt (λ (y : X). order (key y) text ≡ Equal) xs i → (x : X) × (slice_get xs i ≡ Some x) × (key x ≡ text)
  found_item xs text i within holds = elim (slice_get_cases xs i).1 [
    | inl (x, lt, e, g) ↦ (x, e, exact_bytes (key x) text (subst (λ (y : X). order (key y) text ≡ Equal) g (holds x)))
    | inr (past, e) ↦ absurd (omega (arith, past, within))
  ]

  -- one that finds none leaves none
  pub no_item : (xs : List X) (text : List ℕ) (i : ℕ) → IsPartitionPoint (λ (y : X). order (key y) text ≡ Less) (λ (y : X). order (key y) text ≡ Greater) xs i
      → (place : ℕ) (x : X) → slice_get xs place ≡ Some x → key x ≡ text → ⊥
  no_item xs text i point place x here is =
      let at : get_or xs place x ≡ x = get_or_from_slice_get xs place x x here in
      let within : place < length xs = slice_get_within xs place x here in
      let equal : order (key x) text ≡ Equal = ap (λ p. order p text) is ∙ tied_itself nat_list_cmp_total text in
      elim (less_or_not place i) [
        | inl lt ↦ no_less (sym (subst (λ (y : X). order (key y) text ≡ Less) at (point.0 place x (omega arith) lt)) ∙ equal)
        | inr le ↦ no_greater (sym (subst (λ (y : X). order (key y) text ≡ Greater) at (point.1 place x le within)) ∙ equal)
      ]
    where
      less_or_not : (k i : ℕ) → (k < i) ⊎ (i ≤ k)
      less_or_not k i = grind arith

  weakly : (xs : List X) → AscendBy xs → IsSortedBy (λ (a b : X). is_lt (order (key a) (key b))) xs
  weakly xs sorted k d low lt =
      let a : get_or (map key xs) k (key d) ≡ key (get_or xs k d) = get_or-map key xs k d (key d) (omega (arith, lt)) in
      let b : get_or (map key xs) (k + 1) (key d) ≡ key (get_or xs (k + 1) d) = get_or-map key xs (k + 1) d (key d) lt in
      let within : k + 1 < length (map key xs) = subst (λ n. k + 1 < n) (sym (length-map xs key)) lt in
      let less : order (key (get_or xs k d)) (key (get_or xs (k + 1) d)) ≡ Less =
      sym (λ i. order (a i) (b i)) ∙ Less-from_sorted order (map key xs) k (k + 1) (key d) sorted (omega arith) within in
      not_less _ _ (nat_list_cmp_total.antisymm (key (get_or xs (k + 1) d)) (key (get_or xs k d))) less

  pub is_searchable : (xs : List X) (text : List ℕ) → AscendBy xs → IsNonDecreasingBy (λ (y : X). ordering_index (order (key y) text)) xs
  is_searchable xs text sorted i j d le lt = searchable_from_sorted nat_list_cmp_total key xs text (weakly xs sorted) i j d le lt
