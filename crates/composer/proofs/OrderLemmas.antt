-- What an order says of the items that it compares.
use Rattle.std.proofs.Common.{◌≡◌, ℕ, ◌<◌, true, false, refl, sym, ◌∙◌, subst}
use Rattle.std.specs.declared.cmp.Ordering.{Ordering}
use Rattle.std.specs.declared.cmp.Ordering.TheVariants.{Less, Equal, Greater}
use Rattle.std.specs.Cmp.{IsTotalOrder}
use Rattle.std.specs.Ordering.{ordering_then, is_eq, nat_cmp, MatchOrdering}
use Rattle.std.proofs.lemmas.Cmp.{ranked, tied_itself}

pub both_equal : (a b : Ordering) → ordering_then a b ≡ Equal → (a ≡ Equal) × (b ≡ Equal)
both_equal Equal b e = (refl, e)
both_equal Less b e = absurd (cc)
both_equal Greater b e = absurd (cc)

pub ranked_equal : (x y : ℕ) → nat_cmp x y ≡ Equal → x ≡ y
ranked_equal x y e = subst (λ o. MatchOrdering o (x < y) (x ≡ y) (y < x)) e (ranked x y (nat_cmp x y) refl)

pub tests_equal : (o : Ordering) → is_eq o ≡ true → o ≡ Equal
tests_equal Less e = absurd (let k : false ≡ true = e in cc)
tests_equal Equal e = refl
tests_equal Greater e = absurd (let k : false ≡ true = e in cc)

pub not_itself : {X : Type 0} {R : X → X → Ordering} → IsTotalOrder R → (x : X) → R x x ≡ Less → ⊥
not_itself o x e = let k : Less ≡ Equal = sym e ∙ tied_itself o x in cc
