use Rattle.std.proofs.Common.{◌++◌, ◌∷◌, List, [], map, refl, ap, ◌∙◌}
use Rattle.std.proofs.lemmas.Result.{on_ok_weaker}
use Rattle.js_tree.specs.declared.lists.Listed.{Listed}
use Rattle.js_tree.specs.declared.lists.Element.{Element}
use Rattle.js_tree.specs.declared.tree.Expr.{Expr}
use Rattle.js_tree.specs.Parts.{Node, AnExpr, node_of}
use Rattle.js_tree.specs.Spelling.Rows.{each_of, maybe}
use Rattle.js_tree.proofs.Adding.{put_onto}
use Rattle.js_tree.proofs.OntoLemmas.{then_put}
use Rattle.js_tree.proofs.node_list.push_bracket.Goals as goal

pub returns : goal.returns
returns c =
    let row0 : List Node → List Node = each_of (λ (x : Listed (Element Expr)) (more : List Node). AnExpr x.item.value ∷ more) c.args.bracket.now.front in
    let m0 = map node_of c.args.out.now.items in
    let m1 = map node_of c.push_front.new.out.items in
    let new = map node_of c.push_last.new.out.items in
    let rest1 = maybe (λ (x : Element Expr) (more : List Node). AnExpr x.value ∷ more) c.args.bracket.now.last [] in
    on_ok_weaker c.push_last.result
    (λ h. then_put row0 (put_onto (λ (x : Listed (Element Expr)) (more : List Node). AnExpr x.item.value ∷ more) (λ x more. refl) c.args.bracket.now.front) m0 m1 new rest1 (c.in_ok-push_front.ensures {u = tt} ∙ ap (λ xs. m0 ++ each_of (λ (x : Listed (Element Expr)) (more : List Node). AnExpr x.item.value ∷ more) xs []) c.as_slice.ensures) (h))
    c.push_last.ensures
