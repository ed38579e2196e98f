use Rattle.std.proofs.Common.{◌++◌, ◌∷◌, List, [], map, ap, ◌∙◌}
use Rattle.js_tree.specs.declared.lists.Listed.{Listed}
use Rattle.js_tree.specs.declared.lists.Element.{Element}
use Rattle.js_tree.specs.declared.tree.Expr.{Expr}
use Rattle.js_tree.specs.Parts.{AnExpr}
use Rattle.js_tree.specs.Line.{LineItem, AToken, ANode, item_of}
use Rattle.js_tree.specs.Line.{possible}
use Rattle.js_tree.proofs.Adding.{put_more, possible_onto}
use Rattle.js_tree.proofs.line_bracket.push_front.Goals as goal

pub loop-listed-preserved : goal.loop-listed-preserved
loop-listed-preserved c =
    let mid = map item_of c.loop-listed.out.items in
    put_more (λ (x : Listed (Element Expr)) (more : List LineItem). possible x.item.dots (ANode (AnExpr x.item.value) ∷ AToken x.mark ∷ more)) (λ x more. possible_onto x.item.dots (ANode (AnExpr x.item.value) ∷ AToken x.mark ∷ []) more) (map item_of c.args.out.now.items) mid (map item_of c.push_listed.new.out.items) c.args.front.now c.loop-listed.listed-index c.listed-item.result
    c.loop-listed-test.true c.loop-listed.invariant
    (c.in_ok-push_listed.ensures {u = tt} ∙ ap (λ (x : Listed (Element Expr)). mid ++ possible x.item.dots (ANode (AnExpr x.item.value) ∷ AToken x.mark ∷ [])) c.listed-item.is)
