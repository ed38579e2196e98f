-- The round that follows.
use Rattle.std.proofs.Common.{◌≡◌, ℕ, ◌∷◌, [], ◌++◌, Bool, true, false, List, length, nat_eq, cond, not, refl, ap, sym, subst, ◌∙◌, inl, inr, true≢false, Option, Some, None}
use Rattle.std.specs.Prelude.{◌↔◌, Contains, IsSome}
use Rattle.std.specs.BTreeMap.{BTreeMap}
use Rattle.std.specs.Cmp.{eq_by_cmp_equiv}
use Rattle.std.specs.Cmp.Lexicographic.{pointwise, slice_cmp, nat_list_cmp_total, texts_ties}
use Rattle.std.specs.List.{dedup, filter}
use Rattle.std.specs.List.Sorted.{IsPermutation, IsSorted}
use Rattle.std.specs.Option.{is_some}
use Rattle.std.specs.Ordering.{eq_by_cmp, nat_cmp}
use Rattle.std.proofs.lemmas.List.{append-nil, nil_from_length}
use Rattle.std.proofs.lemmas.List.Kept.{Contains-dedup, Contains-from_dedup, IsStrictlySortedBy-dedup}
use Rattle.std.proofs.lemmas.List.Sorted.{Contains-permutation, IsPermutation-sym}
use Rattle.std.proofs.lemmas.Map.Lookups.{exact_bytes}
use Rattle.std.proofs.lemmas.Map.Views.{tells_apart}
use Rattle.composer.proofs.Members.{none, here, there, cons_cases}
use Rattle.jam_app.specs.declared.loading.loaded.Loaded.{Loaded}
use Rattle.jam_app.specs.BetweenRounds.{found_at}
use Rattle.jam_app.specs.Rounds.{Ascend}

-- the path isn't loaded yet
abbrev pub is_new : BTreeMap (List ℕ) Loaded → List ℕ → Bool
is_new loaded path = not (is_some (found_at loaded path))

new_none : (o : Option Loaded) → not (is_some o) ≡ true → IsSome o → ⊥
new_none None e h = true≢false (sym h)
new_none (Some x) e h = true≢false (sym e)

none_new : (o : Option Loaded) → (IsSome o → ⊥) → not (is_some o) ≡ true
none_new None h = refl
none_new (Some x) h = absurd (h refl)

in_first : {X : Type 0} (b : Bool) (x y : X) (xs : List X) → Contains xs y → Contains (cond b (x ∷ xs) xs) y
in_first true x y xs h = there x xs y h
in_first false x y xs h = h

pub into_filter : {X : Type 0} (p : X → Bool) (xs : List X) (y : X) → Contains xs y → p y ≡ true → Contains (filter p xs) y
into_filter p [] y h e = absurd (none y h)
into_filter p (x ∷ xs) y h e = elim (cons_cases x xs y h) [
  | inl is ↦ subst (λ b. Contains (cond b (x ∷ filter p xs) (filter p xs)) y) (sym (ap p is ∙ e)) (subst (Contains (x ∷ filter p xs)) is (here x (filter p xs)))
  | inr later ↦ in_first (p x) x y (filter p xs) (into_filter p xs y later e)
]

from_first : {X : Type 0} (p : X → Bool) (b : Bool) (x y : X) (xs left : List X) → p x ≡ b → (Contains left y → Contains xs y × (p y ≡ true)) → Contains (cond b (x ∷ left) left) y → Contains (x ∷ xs) y × (p y ≡ true)
from_first p true x y xs left e later h = elim (cons_cases x left y h) [
  | inl is ↦ (subst (Contains (x ∷ xs)) is (here x xs), subst (λ z. p z ≡ true) is e)
  | inr g ↦ (let k = later g in (there x xs y k.0, k.1))
]
from_first p false x y xs left e later h = let k = later h in (there x xs y k.0, k.1)

pub from_filter : {X : Type 0} (p : X → Bool) (xs : List X) (y : X) → Contains (filter p xs) y → Contains xs y × (p y ≡ true)
from_filter p [] y h = absurd (none y h)
from_filter p (x ∷ xs) y h = from_first p (p x) x y xs (filter p xs) refl (from_filter p xs y) h

pub filter_skips : {X : Type 0} (p : X → Bool) (all next left rest : List X) (x : X) → filter p all ≡ next ++ filter p left → left ≡ x ∷ rest → p x ≡ false → filter p all ≡ next ++ filter p rest
filter_skips p all next left rest x were is no_more =
    were ∙ ap (λ xs. next ++ filter p xs) is ∙ ap (λ b. next ++ cond b (x ∷ filter p rest) (filter p rest)) no_more

pub filter_ends : {X : Type 0} (p : X → Bool) (all next left : List X) (n : ℕ) → filter p all ≡ next ++ filter p left → n ≡ length left → n ≡ 0 → filter p all ≡ next
filter_ends p all next left n were long none = were ∙ ap (λ xs. next ++ filter p xs) (nil_from_length left (sym long ∙ none)) ∙ append-nil next

-- the test of `==` is that of the order
pub same_dedup : (paths : List (List ℕ)) → dedup (pointwise nat_eq) paths ≡ dedup (eq_by_cmp (slice_cmp nat_cmp)) paths
same_dedup paths = λ i. dedup (λ x y. texts_ties x y i) paths

same_path : (x y : List ℕ) → eq_by_cmp (slice_cmp nat_cmp) x y ≡ true → x ≡ y
same_path = tells_apart exact_bytes

module _ (loaded : BTreeMap (List ℕ) Loaded) (paths moved next : List (List ℕ)) (moves : IsPermutation (filter (is_new loaded) paths) moved) (ends : next ≡ dedup (eq_by_cmp (slice_cmp nat_cmp)) moved) where
  pub next_ascends : IsSorted (slice_cmp nat_cmp) moved → Ascend next
  next_ascends sorted = subst Ascend (sym ends) (IsStrictlySortedBy-dedup nat_list_cmp_total (λ x y. refl) moved sorted)

  pub next_has : (path : List ℕ) → Contains next path ↔ (Contains paths path × (IsSome (found_at loaded path) → ⊥))
  next_has path = (
    λ h. (let g = from_filter (is_new loaded) paths path (Contains-permutation moved (filter (is_new loaded) paths) path (IsPermutation-sym (filter (is_new loaded) paths) moved moves)
        (Contains-from_dedup (eq_by_cmp (slice_cmp nat_cmp)) moved path (subst (λ (ps : List (List ℕ)). Contains ps path) ends h))) in
        (g.0, new_none (found_at loaded path) g.1)),
    λ h. subst (λ (ps : List (List ℕ)). Contains ps path) (sym ends)
        (Contains-dedup (eq_by_cmp_equiv nat_list_cmp_total) same_path moved path
        (Contains-permutation (filter (is_new loaded) paths) moved path moves (into_filter (is_new loaded) paths path h.0 (none_new (found_at loaded path) h.1)))),
  )
