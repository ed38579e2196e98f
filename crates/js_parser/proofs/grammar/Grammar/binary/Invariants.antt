use Rattle.std.proofs.Common.{◌≤◌, Ok}
use Rattle.js_parser.specs.Nodes.{ReadsExpr}
use Rattle.js_parser.proofs.grammar.Grammar.binary.Given as goal

abbrev pub invariant-ranks : goal.invariant-ranks
invariant-ranks g l = record {
  least : l.lowest ≤ l.rank;
  most : l.rank ≤ 13;
  reads : ReadsExpr l.rank l.self.room l.fn.reader l.reader (Ok l.first);
}

abbrev pub decreases-ranks : goal.decreases-ranks
decreases-ranks g l = l.rank
