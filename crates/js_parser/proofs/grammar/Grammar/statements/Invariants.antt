use Rattle.std.proofs.Common.{◌≡◌, ◌≤◌, length}
use Rattle.js_tree.specs.Spelling.{stmts_height}
use Rattle.js_parser.proofs.ListLemmas.{Progress}
use Rattle.js_parser.proofs.StmtLemmas.{IsStmt}
use Rattle.js_parser.specs.Nodes.{Closes, stmt_line}
use Rattle.js_parser.proofs.grammar.Grammar.statements.Given as goal

abbrev pub invariant-statements : goal.invariant-statements
invariant-statements g l = record {
  progress : Progress stmt_line (IsStmt l.self.room) Closes l.fn.reader l.all l.reader;
  tallest : l.tallest ≡ stmts_height l.all;
  shorter : length l.reader.left ≤ length l.fn.reader.left;
}

abbrev pub decreases-statements : goal.decreases-statements
decreases-statements g l = length l.reader.left
