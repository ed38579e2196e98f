-- The end of a loop over a list.
use Rattle.std.proofs.Common.{◌≡◌, ℕ, ◌<◌, ◌==◌, Bool, true, false, List, [], ◌∷◌, ◌++◌, length, ap, sym, ◌∙◌, arith, true≢false}
use Rattle.std.proofs.lemmas.Bool.Decides.{nat_tests}
use Rattle.std.proofs.lemmas.List.{append-nil, nil_from_length}

-- where nothing is left, all is done
pub no_more : {X : Type 0} (done left : List X) (n : ℕ) → n ≡ length left → n ≡ 0 → done ++ left ≡ done
no_more done left n long none = ap (λ l. done ++ l) (nil_from_length left (sym long ∙ none)) ∙ append-nil done

-- what the test for an empty list says
is_zero : (n : ℕ) → (n == 0) ≡ true → n ≡ 0
is_zero n is = grind (arith, nat_tests)

pub is_nothing : {X : Type 0} (xs : List X) (n : ℕ) (empty : Bool) → n ≡ length xs → empty ≡ (n == 0) → empty ≡ true → xs ≡ []
is_nothing xs n empty long says is = nil_from_length xs (sym long ∙ is_zero n (sym says ∙ is))

pub not_empty : {X : Type 0} (xs : List X) (n : ℕ) (empty : Bool) → n ≡ length xs → empty ≡ (n == 0) → empty ≡ false → 0 < length xs
not_empty [] n empty long says is = absurd (true≢false (sym (says ∙ ap (λ k. k == 0) long) ∙ is))
not_empty (x ∷ xs) n empty long says is = omega arith
