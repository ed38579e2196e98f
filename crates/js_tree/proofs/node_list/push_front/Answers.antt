use Rattle.std.proofs.Common.{◌++◌, ◌∷◌, List, [], map, refl, ap, ◌∙◌}
use Rattle.js_tree.specs.declared.lists.Listed.{Listed}
use Rattle.js_tree.specs.declared.lists.Element.{Element}
use Rattle.js_tree.specs.declared.tree.Expr.{Expr}
use Rattle.js_tree.specs.Parts.{Node, AnExpr, node_of}
use Rattle.js_tree.proofs.Adding.{put_more}
use Rattle.js_tree.proofs.node_list.push_front.Goals as goal

pub loop-listed-preserved : goal.loop-listed-preserved
loop-listed-preserved c =
    let mid = map node_of c.loop-listed.out.items in
    put_more (λ (x : Listed (Element Expr)) (more : List Node). AnExpr x.item.value ∷ more) (λ x more. refl) (map node_of c.args.out.now.items) mid (map node_of c.push.new.out.items) c.args.front.now c.loop-listed.listed-index c.listed-item.result
    c.loop-listed-test.true c.loop-listed.invariant
    (c.in_ok-push.ensures {u = tt} ∙ ap (λ x. mid ++ AnExpr x ∷ []) c.get.ensures ∙ ap (λ (x : Listed (Element Expr)). mid ++ AnExpr x.item.value ∷ []) c.listed-item.is)
