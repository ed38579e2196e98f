use Rattle.std.proofs.Common.{◌++◌, ◌∷◌, List, [], map, refl, ap, ◌∙◌}
use Rattle.js_tree.specs.declared.lists.Listed.{Listed}
use Rattle.js_tree.specs.declared.tree.Expr.{Expr}
use Rattle.js_tree.specs.Parts.{Node, AnExpr, node_of}
use Rattle.js_tree.proofs.Adding.{put_more}
use Rattle.js_tree.proofs.node_list.push_substitutions.Goals as goal

pub loop-part-preserved : goal.loop-part-preserved
loop-part-preserved c =
    let mid = map node_of c.loop-part.out.items in
    put_more (λ (x : Listed Expr) (more : List Node). AnExpr x.item ∷ more) (λ x more. refl) (map node_of c.args.out.now.items) mid (map node_of c.push.new.out.items) c.args.parts.now c.loop-part.part-index c.part-item.result
    c.loop-part-test.true c.loop-part.invariant
    (c.in_ok-push.ensures {u = tt} ∙ ap (λ x. mid ++ AnExpr x ∷ []) c.get.ensures ∙ ap (λ (x : Listed Expr). mid ++ AnExpr x.item ∷ []) c.part-item.is)
