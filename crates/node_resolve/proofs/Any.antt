-- A test of each text of a list, as a loop makes it.
use Rattle.std.proofs.Common.{◌≡◌, ℕ, Bool, true, false, List, ◌∷◌, refl, ap, sym, ◌∙◌}
use Rattle.std.specs.Prelude.{◌||◌}

abbrev Steps : (List (List ℕ) → Bool) → (List ℕ → Bool) → Type 0
Steps f test = (x : List ℕ) (xs : List (List ℕ)) → f (x ∷ xs) ≡ (test x || f xs)

-- a text that passes decides
pub any_found : (f : List (List ℕ) → Bool) (test : List ℕ → Bool) → Steps f test → (all left rest : List (List ℕ)) (x : List ℕ)
    → left ≡ x ∷ rest → f all ≡ f left → true ≡ test x → true ≡ f all
any_found f test step all left rest x front was here =
    let one : (test x || f rest) ≡ true = rw (sym here) refl in
    sym (was ∙ ap f front ∙ step x rest ∙ one)

-- without it the rest decides
pub any_left : (f : List (List ℕ) → Bool) (test : List ℕ → Bool) → Steps f test → (all left rest : List (List ℕ)) (x : List ℕ)
    → left ≡ x ∷ rest → f all ≡ f left → false ≡ test x → f all ≡ f rest
any_left f test step all left rest x front was here =
    let one : (test x || f rest) ≡ f rest = rw (sym here) refl in
    was ∙ ap f front ∙ step x rest ∙ one
