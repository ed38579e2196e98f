use Rattle.std.proofs.Common.{◌++◌, ◌∷◌, List, [], map, refl, ap, ◌∙◌}
use Rattle.js_tree.specs.declared.lists.Arm.{Arm}
use Rattle.js_tree.specs.declared.tree.Expr.{Expr}
use Rattle.js_tree.specs.Parts.{Node, AnExpr, node_of}
use Rattle.js_tree.proofs.Adding.{put_more}
use Rattle.js_tree.proofs.node_list.push_arms.Goals as goal

pub loop-arm-preserved : goal.loop-arm-preserved
loop-arm-preserved c =
    let mid = map node_of c.loop-arm.out.items in
    put_more (λ (x : Arm Expr) (more : List Node). AnExpr x.test ∷ AnExpr x.value ∷ more) (λ x more. refl) (map node_of c.args.out.now.items) mid (map node_of c.push_arm.new.out.items) c.args.arms.now c.loop-arm.arm-index c.arm-item.result
    c.loop-arm-test.true c.loop-arm.invariant
    (c.in_ok-push_arm.ensures {u = tt} ∙ ap (λ (x : Arm Expr). mid ++ AnExpr x.test ∷ AnExpr x.value ∷ []) c.arm-item.is)
