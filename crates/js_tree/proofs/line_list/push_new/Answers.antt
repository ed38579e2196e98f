use Rattle.std.proofs.Common.{◌∷◌, List, [], map, refl, ap}
use Rattle.std.proofs.lemmas.Result.{on_ok_weaker}
use Rattle.js_tree.specs.Line.{LineItem, AToken, ANode, given_marks, item_of, items, tail_items}
use Rattle.js_tree.specs.Parts.{AnExpr}
use Rattle.js_tree.specs.Spelling.Rows.{bracket_row, maybe}
use Rattle.js_tree.proofs.OntoLemmas.{then_put, tail_items_onto}
use Rattle.js_tree.proofs.line_list.push_new.Goals as goal

pub returns : goal.returns
returns c =
    let row0 : List LineItem → List LineItem = (λ more. AToken c.args.word.now ∷ more) in
    let row1 : List LineItem → List LineItem = (λ more. ANode (AnExpr c.args.head.now) ∷ tail_items c.args.head.now [] c.args.tails.now more) in
    let m0 = map item_of c.args.out.now.items in
    let m1 = map item_of c.push_token.new.out.items in
    let m2 = map item_of c.push_chain.new.out.items in
    let new = map item_of c.push_arguments.new.out.items in
    let rest2 = maybe (bracket_row given_marks items.expr) c.args.args.now [] in
    let rest1 = row1 rest2 in
    on_ok_weaker c.push_arguments.result
    (λ h. then_put row0 (λ more. refl) m0 m1 new rest1 (c.in_ok-push_token.ensures {u = tt}) (then_put row1 (λ more. ap (λ is. ANode (AnExpr c.args.head.now) ∷ is) (tail_items_onto more c.args.head.now c.args.tails.now)) m1 m2 new rest2 (c.in_ok-push_chain.ensures {u = tt}) (h)))
    c.push_arguments.ensures
