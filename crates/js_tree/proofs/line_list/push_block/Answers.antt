use Rattle.std.proofs.Common.{◌++◌, ◌∷◌, List, [], map, refl, ap, ◌∙◌}
use Rattle.std.proofs.lemmas.Result.{on_ok_weaker}
use Rattle.js_tree.specs.Line.{LineItem, AToken, item_of, items}
use Rattle.js_tree.specs.Spelling.Rows.{each_of}
use Rattle.js_tree.proofs.Adding.{put_onto}
use Rattle.js_tree.proofs.OntoLemmas.{then_put}
use Rattle.js_tree.proofs.line_list.push_block.Goals as goal

pub returns : goal.returns
returns c =
    let row0 : List LineItem → List LineItem = (λ more. AToken c.args.block.now.begin ∷ more) in
    let row1 : List LineItem → List LineItem = each_of items.stmt c.args.block.now.body in
    let m0 = map item_of c.args.out.now.items in
    let m1 = map item_of c.push_token.new.out.items in
    let m2 = map item_of c.push_body.new.out.items in
    let new = map item_of c.push_token-2.new.out.items in
    let rest2 = AToken c.args.block.now.end ∷ [] in
    let rest1 = row1 rest2 in
    on_ok_weaker c.push_token-2.result
    (λ h. then_put row0 (λ more. refl) m0 m1 new rest1 (c.in_ok-push_token.ensures {u = tt}) (then_put row1 (put_onto items.stmt (λ x more. refl) c.args.block.now.body) m1 m2 new rest2 (c.in_ok-push_body.ensures {u = tt} ∙ ap (λ xs. m1 ++ each_of items.stmt xs []) c.as_slice.ensures) (h)))
    c.push_token-2.ensures
