use Rattle.std.proofs.Common.{◌≡◌, ◌++◌, ◌∷◌, List, [], map, take}
use Rattle.js_tree.specs.declared.lists.Arm.{Arm}
use Rattle.js_tree.specs.declared.tree.Expr.{Expr}
use Rattle.js_tree.specs.Parts.{AnExpr}
use Rattle.js_tree.specs.Line.{LineItem, AToken, ANode, item_of}
use Rattle.js_tree.specs.Spelling.Rows.{each_of}
use Rattle.js_tree.proofs.line_list.push_arms.Given as goal

abbrev pub invariant-loop-arm : goal.invariant-loop-arm
invariant-loop-arm l = map item_of l.out.items ≡ map item_of l.initial.out.items ++ each_of (λ (x : Arm Expr) (more : List LineItem). ANode (AnExpr x.test) ∷ AToken x.question ∷ ANode (AnExpr x.value) ∷ AToken x.colon ∷ more) (take l.arm-index l.arms) []
