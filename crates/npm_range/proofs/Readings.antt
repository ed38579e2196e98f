-- Facts of readings in general, and of `holds` on views.
use Rattle.std.proofs.Common.{◌≡◌, ℕ, Bool, List, [], ◌∷◌, map, refl, ap, sym, ◌∙◌, subst}
use Rattle.std.proofs.lemmas.List.Folds.{list_all-map}
use Rattle.std.specs.List.{list_all, list_any}
use Rattle.npm_range.specs.Conditions.{Condition, condition_of, conditions_of}
use Rattle.npm_range.specs.Faults.{IfAt}
use Rattle.npm_range.specs.Grammar.{Reads}
use Rattle.npm_range.specs.declared.fault.RangeFault.{RangeFault}
use Rattle.npm_range.specs.declared.fault.RangeFault.TheVariants.{At, OutOfMemory}
use Rattle.npm_range.specs.declared.comparator.Comparator.{Comparator}

-- where each step and each end is the only one at its place, a place has one reading
pub one_reading : {S A F : Type 0} (Step : S → A → S → Type 0) (Ends : S → F → Type 0)
    → ((s : S) (a b : A) (t u : S) → Step s a t → Step s b u → (a ≡ b) × (t ≡ u))
    → ((s : S) (f g : F) → Ends s f → Ends s g → f ≡ g)
    → ((s : S) (a : A) (t : S) (f : F) → Step s a t → Ends s f → ⊥)
    → (s : S) (xs ys : List A) (f g : F) → Reads Step Ends s xs f → Reads Step Ends s ys g → (xs ≡ ys) × (f ≡ g)
one_reading Step Ends step end apart s [] [] f g p q = (refl, end s f g p q)
one_reading Step Ends step end apart s [] (y ∷ ys) f g p q = absurd (apart s y q.0 f q.1 p)
one_reading Step Ends step end apart s (x ∷ xs) [] f g p q = absurd (apart s x p.0 g p.1 q)
one_reading Step Ends step end apart s (x ∷ xs) (y ∷ ys) f g p q =
    let e = step s x y p.0 q.0 p.1 q.1 in
    let r = one_reading Step Ends step end apart p.0 xs ys f g p.2 (subst (λ t. Reads Step Ends t ys g) (sym e.1) q.2) in
    (ap (λ z. z ∷ xs) e.0 ∙ ap (λ zs. y ∷ zs) r.0, r.1)

-- `holds` on the views of comparators is the same test on the comparators
pub holds-views : {V : Type 0} (items : V → List Comparator) (test : Condition → Bool) (vs : List V)
    → list_any (list_all test) (map (λ v. conditions_of (items v)) vs) ≡ list_any (λ v. list_all (λ c. test (condition_of c)) (items v)) vs
holds-views items test [] = refl
holds-views items test (v ∷ vs) = rw (list_all-map test condition_of (items v), holds-views items test vs) refl

-- a fact of a fault's offset may be weakened
pub IfAt-weaker : (e : RangeFault) (P Q : ℕ → Type 0) → ((n : ℕ) → P n → Q n) → IfAt e P → IfAt e Q
IfAt-weaker (At n) P Q f h = f n h
IfAt-weaker OutOfMemory P Q f h = tt
