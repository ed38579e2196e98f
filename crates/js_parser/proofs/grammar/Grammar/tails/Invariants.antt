use Rattle.std.proofs.Common.{◌≡◌, ◌≤◌, ◌-◌, length}
use Rattle.js_tree.specs.Spelling.{tallest_of}
use Rattle.js_parser.proofs.ListLemmas.{Progress}
use Rattle.js_parser.proofs.TailLemmas.{IsTail}
use Rattle.js_parser.specs.Following.{NoKind, begins_tail}
use Rattle.js_parser.specs.Nodes.{tail_height, tail_line}
use Rattle.js_parser.proofs.grammar.Grammar.tails.Given as goal

abbrev pub invariant-tails : goal.invariant-tails
invariant-tails g l = record {
  progress : Progress tail_line (IsTail l.calls (l.self.room - 1)) (NoKind (begins_tail l.calls)) l.fn.reader l.all l.reader;
  height : l.height ≡ tallest_of tail_height l.all;
  shorter : length l.reader.left ≤ length l.fn.reader.left;
}

abbrev pub decreases-tails : goal.decreases-tails
decreases-tails g l = length l.reader.left
