use Rattle.std.proofs.Common.{◌++◌, ◌∷◌, List, [], map, refl, ap, ◌∙◌}
use Rattle.js_tree.specs.declared.lists.Further.{Further}
use Rattle.js_tree.specs.declared.tree.Expr.{Expr}
use Rattle.js_tree.specs.Parts.{AnExpr}
use Rattle.js_tree.specs.Line.{LineItem, AToken, ANode, item_of}
use Rattle.js_tree.proofs.Adding.{put_more}
use Rattle.js_tree.proofs.line_list.push_further.Goals as goal

pub loop-further-preserved : goal.loop-further-preserved
loop-further-preserved c =
    let mid = map item_of c.loop-further.out.items in
    put_more (λ (x : Further Expr) (more : List LineItem). AToken x.mark ∷ ANode (AnExpr x.item) ∷ more) (λ x more. refl) (map item_of c.args.out.now.items) mid (map item_of c.push_operand.new.out.items) c.args.rest.now c.loop-further.further-index c.further-item.result
    c.loop-further-test.true c.loop-further.invariant
    (c.in_ok-push_operand.ensures {u = tt} ∙ ap (λ (x : Further Expr). mid ++ AToken x.mark ∷ ANode (AnExpr x.item) ∷ []) c.further-item.is)
