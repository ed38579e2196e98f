-- Lists that are brought in order: what they keep.
use Rattle.std.proofs.Common.{◌≡◌, ◌⊎◌, inl, inr, List, [], ◌∷◌, sym, ap, subst, ◌∙◌}
use Rattle.std.specs.declared.cmp.Ordering.{Ordering}
use Rattle.std.specs.declared.cmp.Ordering.TheVariants.{Less, Equal, Greater}
use Rattle.std.specs.Cmp.{IsTotalOrder}
use Rattle.std.specs.List.{AllByRecursion}
use Rattle.std.specs.List.Sorted.{IsStrictlySortedBy}
use Rattle.std.specs.Ordering.{ordering_reverse}
use Rattle.jam_base.specs.Ascending.{ascending, with_item}
use Rattle.jam_base.proofs.Merging.{IsLess, IsEqual, IsGreater, case_of, item_less, item_equal, item_greater}
use Rattle.flow_rules.proofs.RuleLemmas.{below_all}

-- one of the items has the property
abbrev pub Some_in : {X : Type 0} → (X → Type 0) → List X → Type 0
Some_in P [] = ⊥
Some_in P (x ∷ xs) = P x ⊎ Some_in P xs

module _ {X : Type 0} (R : X → X → Ordering) (o : IsTotalOrder R) where
  all_with : (P : X → Type 0) (x : X) (ys : List X) → P x → AllByRecursion P ys → AllByRecursion P (with_item R x ys)
  all_with P x [] p a = (p, tt)
  all_with P x (y ∷ ys) p a = elim (case_of (R x y)) [
    | IsLess e ↦ subst (AllByRecursion P) (sym (item_less R x y ys e)) (p, a)
    | IsEqual e ↦ subst (AllByRecursion P) (sym (item_equal R x y ys e)) (p, a.1)
    | IsGreater e ↦ subst (AllByRecursion P) (sym (item_greater R x y ys e)) (a.0, all_with P x ys p a.1)
  ]

  -- what each item has, each item has that is kept
  pub all_ascending : (P : X → Type 0) (xs : List X) → AllByRecursion P xs → AllByRecursion P (ascending R xs)
  unfolding ascending
  all_ascending P [] a = tt
  all_ascending P (x ∷ xs) a = all_with P x (ascending R xs) a.0 (all_ascending P xs a.1)

  turned : (x y : X) → R x y ≡ Greater → R y x ≡ Less
  turned x y e = o.antisymm y x ∙ ap ordering_reverse e

  same_below : (x y : X) (zs : List X) → R x y ≡ Equal → AllByRecursion (λ z. R y z ≡ Less) zs → AllByRecursion (λ z. R x z ≡ Less) zs
  same_below x y [] e a = tt
  same_below x y (z ∷ zs) e a = (o.congr x y z e ∙ a.0, same_below x y zs e a.1)

  sorted_with : (x : X) (ys : List X) → IsStrictlySortedBy R ys → IsStrictlySortedBy R (with_item R x ys)
  unfolding IsStrictlySortedBy
  sorted_with x [] s = (tt, tt)
  sorted_with x (y ∷ ys) s = elim (case_of (R x y)) [
    | IsLess e ↦ subst (IsStrictlySortedBy R) (sym (item_less R x y ys e)) ((e, below_all R o x y ys e s.0), s)
    | IsEqual e ↦ subst (IsStrictlySortedBy R) (sym (item_equal R x y ys e)) (same_below x y ys e s.0, s.1)
    | IsGreater e ↦ subst (IsStrictlySortedBy R) (sym (item_greater R x y ys e)) (all_with (λ z. R y z ≡ Less) x ys (turned x y e) s.0, sorted_with x ys s.1)
  ]

  -- they are in order
  pub sorted_ascending : (xs : List X) → IsStrictlySortedBy R (ascending R xs)
  unfolding ascending IsStrictlySortedBy
  sorted_ascending [] = tt
  sorted_ascending (x ∷ xs) = sorted_with x (ascending R xs) (sorted_ascending xs)

  some_with : (P : X → Type 0) → ((x y : X) → R x y ≡ Equal → P y → P x) → (x : X) (ys : List X) → P x ⊎ Some_in P ys → Some_in P (with_item R x ys)
  some_with P same x [] h = h
  some_with P same x (y ∷ ys) h = elim (case_of (R x y)) [
    | IsLess e ↦ subst (Some_in P) (sym (item_less R x y ys e)) h
    | IsEqual e ↦ subst (Some_in P) (sym (item_equal R x y ys e)) (equal e h)
    | IsGreater e ↦ subst (Some_in P) (sym (item_greater R x y ys e)) (greater (λ g. some_with P same x ys g) h)
  ]
    where
      equal : R x y ≡ Equal → P x ⊎ Some_in P (y ∷ ys) → P x ⊎ Some_in P ys
      equal e (inl p) = inl p
      equal e (inr (inl q)) = inl (same x y e q)
      equal e (inr (inr r)) = inr r

      greater : (P x ⊎ Some_in P ys → Some_in P (with_item R x ys)) → P x ⊎ Some_in P (y ∷ ys) → P y ⊎ Some_in P (with_item R x ys)
      greater more (inl p) = inr (more (inl p))
      greater more (inr (inl q)) = inl q
      greater more (inr (inr r)) = inr (more (inr r))

  -- what an item has, an item has that is kept, where items that the order doesn't tell apart have it alike
  pub some_ascending : (P : X → Type 0) → ((x y : X) → R x y ≡ Equal → P y → P x) → (xs : List X) → Some_in P xs → Some_in P (ascending R xs)
  unfolding ascending
  some_ascending P same [] h = h
  some_ascending P same (x ∷ xs) (inl p) = some_with P same x (ascending R xs) (inl p)
  some_ascending P same (x ∷ xs) (inr r) = some_with P same x (ascending R xs) (inr (some_ascending P same xs r))
