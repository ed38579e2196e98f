use Rattle.std.proofs.Common.{◌≡◌, ◌++◌, ◌∷◌, List, [], map, take}
use Rattle.js_tree.specs.declared.tree.Stmt.{Stmt}
use Rattle.js_tree.specs.Parts.{AStmt}
use Rattle.js_tree.specs.Line.{LineItem, ANode, item_of}
use Rattle.js_tree.specs.Spelling.Rows.{each_of}
use Rattle.js_tree.proofs.line_list.push_body.Given as goal

abbrev pub invariant-loop-statement : goal.invariant-loop-statement
invariant-loop-statement l = map item_of l.out.items ≡ map item_of l.initial.out.items ++ each_of (λ (x : Stmt) (more : List LineItem). ANode (AStmt x) ∷ more) (take l.statement-index l.body) []
