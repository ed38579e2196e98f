use Rattle.std.proofs.Common.{◌≡◌, ◌++◌, ◌∷◌, List, [], map, take}
use Rattle.js_tree.specs.declared.lists.Arm.{Arm}
use Rattle.js_tree.specs.declared.tree.Expr.{Expr}
use Rattle.js_tree.specs.Parts.{Node, AnExpr, node_of}
use Rattle.js_tree.specs.Spelling.Rows.{each_of}
use Rattle.js_tree.proofs.node_list.push_arms.Given as goal

abbrev pub invariant-loop-arm : goal.invariant-loop-arm
invariant-loop-arm l = map node_of l.out.items ≡ map node_of l.initial.out.items ++ each_of (λ (x : Arm Expr) (more : List Node). AnExpr x.test ∷ AnExpr x.value ∷ more) (take l.arm-index l.arms) []
