use Rattle.std.proofs.Common.{◌≡◌, ◌<◌, ◌-◌, false, length}
use Rattle.js_tree.specs.Spelling.Nodes.{is_empty}
use Rattle.js_parser.proofs.ListLemmas.{Progress}
use Rattle.js_parser.proofs.OperandLemmas.{IsOperand}
use Rattle.js_parser.specs.Following.{Stops}
use Rattle.js_parser.specs.Nodes.{further_line, further_height}
use Rattle.js_parser.proofs.grammar.Grammar.operands.Given as goal

abbrev pub invariant-operands : goal.invariant-operands
invariant-operands g l = record {
  progress : Progress (further_line l.rank) (IsOperand l.rank (l.self.room - 1)) (Stops l.rank) l.fn.reader l.all l.reader;
  some : is_empty l.all ≡ false;
  height : l.height ≡ further_height l.all;
  shorter : length l.reader.left < length l.fn.reader.left;
}

abbrev pub decreases-operands : goal.decreases-operands
decreases-operands g l = length l.reader.left
