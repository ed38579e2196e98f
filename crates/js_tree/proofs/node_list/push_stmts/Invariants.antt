use Rattle.std.proofs.Common.{◌≡◌, ◌++◌, ◌∷◌, List, [], map, take}
use Rattle.js_tree.specs.declared.tree.Stmt.{Stmt}
use Rattle.js_tree.specs.Parts.{Node, AStmt, node_of}
use Rattle.js_tree.specs.Spelling.Rows.{each_of}
use Rattle.js_tree.proofs.node_list.push_stmts.Given as goal

abbrev pub invariant-loop-statement : goal.invariant-loop-statement
invariant-loop-statement l = map node_of l.out.items ≡ map node_of l.initial.out.items ++ each_of (λ (x : Stmt) (more : List Node). AStmt x ∷ more) (take l.statement-index l.body) []
