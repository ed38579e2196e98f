use Rattle.std.proofs.Common.{◌≡◌, ℕ, ◌==◌, arith, ◌∙◌}
use Rattle.std.proofs.lemmas.Bool.Decides.{nat_tests}
use Rattle.js_tree.specs.TokenKinds.{code}
use Rattle.js_parser.proofs.TokenLemmas.{number}
use Rattle.js_parser.proofs.kinds.are_same.Goals as goal

flipped : (a b : ℕ) → (a == b) ≡ (b == a)
flipped a b = grind (arith, nat_tests)

pub returns : goal.returns
returns c = (λ i. number c.args.a i == number c.args.b i) ∙ flipped (code c.args.a) (code c.args.b)
