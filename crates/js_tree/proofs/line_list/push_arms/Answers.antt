use Rattle.std.proofs.Common.{◌++◌, ◌∷◌, List, [], map, refl, ap, ◌∙◌}
use Rattle.js_tree.specs.declared.lists.Arm.{Arm}
use Rattle.js_tree.specs.declared.tree.Expr.{Expr}
use Rattle.js_tree.specs.Parts.{AnExpr}
use Rattle.js_tree.specs.Line.{LineItem, AToken, ANode, item_of}
use Rattle.js_tree.proofs.Adding.{put_more}
use Rattle.js_tree.proofs.line_list.push_arms.Goals as goal

pub loop-arm-preserved : goal.loop-arm-preserved
loop-arm-preserved c =
    let mid = map item_of c.loop-arm.out.items in
    put_more (λ (x : Arm Expr) (more : List LineItem). ANode (AnExpr x.test) ∷ AToken x.question ∷ ANode (AnExpr x.value) ∷ AToken x.colon ∷ more) (λ x more. refl) (map item_of c.args.out.now.items) mid (map item_of c.push_arm.new.out.items) c.args.arms.now c.loop-arm.arm-index c.arm-item.result
    c.loop-arm-test.true c.loop-arm.invariant
    (c.in_ok-push_arm.ensures {u = tt} ∙ ap (λ (x : Arm Expr). mid ++ ANode (AnExpr x.test) ∷ AToken x.question ∷ ANode (AnExpr x.value) ∷ AToken x.colon ∷ []) c.arm-item.is)
