use Rattle.std.proofs.Common.{◌++◌, ◌∷◌, List, [], map, refl, ap, ◌∙◌}
use Rattle.js_tree.specs.declared.lists.Listed.{Listed}
use Rattle.js_tree.specs.declared.tree.Expr.{Expr}
use Rattle.js_tree.specs.Parts.{AnExpr}
use Rattle.js_tree.specs.Line.{LineItem, AToken, ANode, item_of}
use Rattle.js_tree.proofs.Adding.{put_more}
use Rattle.js_tree.proofs.line_list.push_substitutions.Goals as goal

pub loop-part-preserved : goal.loop-part-preserved
loop-part-preserved c =
    let mid = map item_of c.loop-part.out.items in
    put_more (λ (x : Listed Expr) (more : List LineItem). ANode (AnExpr x.item) ∷ AToken x.mark ∷ more) (λ x more. refl) (map item_of c.args.out.now.items) mid (map item_of c.push_substitution.new.out.items) c.args.parts.now c.loop-part.part-index c.part-item.result
    c.loop-part-test.true c.loop-part.invariant
    (c.in_ok-push_substitution.ensures {u = tt} ∙ ap (λ (x : Listed Expr). mid ++ ANode (AnExpr x.item) ∷ AToken x.mark ∷ []) c.part-item.is)
