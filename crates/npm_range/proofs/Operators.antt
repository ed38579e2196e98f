-- What `split_operator` is on a text whose first byte is known, or known not to be one of the three.
use Rattle.std.proofs.Common.{◌≡◌, ◌≢◌, ℕ, List, [], ◌∷◌, refl, ap, inl, inr, false}
use Rattle.std.proofs.lemmas.Bool.{cases_Bool, eqb-true}
use Rattle.std.specs.Prelude.{◌==◌}
use Rattle.npm_range.specs.Grammar.{or_equal, split_operator}
use Rattle.npm_range.specs.declared.comparator.Operator.{Operator}
use Rattle.npm_range.specs.declared.comparator.Operator.TheVariants as operator

-- the byte at the front of a text that is not c and the rest
pub not_first : (c b : ℕ) (rest : List ℕ) → ((left : List ℕ) → b ∷ rest ≢ c ∷ left) → b == c ≡ false
not_first c b rest h = elim (cases_Bool (b == c)) [
  | inl same ↦ absurd (h rest (ap (λ x. x ∷ rest) (eqb-true b c same)))
  | inr other ↦ other
]

pub or_equal-none : (short long : Operator) (text : List ℕ) → ((rest : List ℕ) → text ≢ 61 ∷ rest) → or_equal short long text ≡ (short, text)
or_equal-none short long [] h = refl
or_equal-none short long (b ∷ rest) h = rw (not_first 61 b rest h) refl

pub split_operator-less : (text rest : List ℕ) → text ≡ 60 ∷ rest → split_operator text ≡ or_equal operator.Less operator.LessEqual rest
unfolding split_operator
split_operator-less text rest e = ap split_operator e

pub split_operator-greater : (text rest : List ℕ) → text ≡ 62 ∷ rest → split_operator text ≡ or_equal operator.Greater operator.GreaterEqual rest
unfolding split_operator
split_operator-greater text rest e = ap split_operator e

pub split_operator-equal : (text rest : List ℕ) → text ≡ 61 ∷ rest → split_operator text ≡ (operator.Equal, rest)
unfolding split_operator
split_operator-equal text rest e = ap split_operator e

pub split_operator-none : (text : List ℕ) → ((rest : List ℕ) → text ≢ 60 ∷ rest) → ((rest : List ℕ) → text ≢ 62 ∷ rest)
    → ((rest : List ℕ) → text ≢ 61 ∷ rest) → split_operator text ≡ (operator.Equal, text)
unfolding split_operator
split_operator-none [] l g e = refl
split_operator-none (b ∷ rest) l g e = rw (not_first 60 b rest l, not_first 62 b rest g, not_first 61 b rest e) refl

-- what a proof of `or_equal` and `split_operator` cites
pub ruleset operators = (or_equal-none, split_operator-less, split_operator-greater, split_operator-equal, split_operator-none)
