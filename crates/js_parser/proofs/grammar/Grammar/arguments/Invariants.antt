use Rattle.std.proofs.Common.{◌≡◌, ◌≤◌, ◌-◌, length}
use Rattle.js_parser.proofs.ArgumentLemmas.{AfterArgument, IsArgument, argument_height, argument_line}
use Rattle.js_parser.proofs.BracketLemmas.{Within, inside_height}
use Rattle.js_parser.proofs.grammar.Grammar.arguments.Given as goal

abbrev pub invariant-arguments : goal.invariant-arguments
invariant-arguments g l = record {
  within : Within argument_line (IsArgument (l.self.room - 1)) AfterArgument l.initial.reader l.front l.last l.reader;
  height : l.height ≡ inside_height argument_height l.front l.last;
  shorter : length l.reader.left ≤ length l.initial.reader.left;
}

abbrev pub decreases-arguments : goal.decreases-arguments
decreases-arguments g l = length l.reader.left
