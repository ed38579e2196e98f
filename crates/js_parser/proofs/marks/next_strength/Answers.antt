use Rattle.std.proofs.Common.{subst, sym}
use Rattle.js_parser.proofs.TokenLemmas.{strength_told}
use Rattle.js_parser.specs.Following.{IsStrength}
use Rattle.js_parser.proofs.marks.next_strength.Goals as goal

pub returns : goal.returns
returns c = subst (IsStrength c.args.reader.now) (sym c.strength.ensures) (strength_told _ _ _ c.kind.ensures c.nl_before.ensures)
