use Rattle.std.proofs.Common.{◌∷◌, List, [], map, refl}
use Rattle.std.proofs.lemmas.Result.{on_ok_weaker}
use Rattle.js_tree.specs.Line.{LineItem, AToken, item_of, items, possible}
use Rattle.js_tree.specs.Spelling.Rows.{maybe}
use Rattle.js_tree.proofs.OntoLemmas.{then_put, value_onto}
use Rattle.js_tree.proofs.line_list.push_return.Goals as goal

pub returns : goal.returns
returns c =
    let row0 : List LineItem → List LineItem = (λ more. AToken c.args.word.now ∷ more) in
    let row1 : List LineItem → List LineItem = maybe items.expr c.args.value.now in
    let m0 = map item_of c.args.out.now.items in
    let m1 = map item_of c.push_token.new.out.items in
    let m2 = map item_of c.push_value.new.out.items in
    let new = map item_of c.push_possible.new.out.items in
    let rest2 = possible c.args.semi.now [] in
    let rest1 = row1 rest2 in
    on_ok_weaker c.push_possible.result
    (λ h. then_put row0 (λ more. refl) m0 m1 new rest1 (c.in_ok-push_token.ensures {u = tt}) (then_put row1 (value_onto c.args.value.now) m1 m2 new rest2 (c.in_ok-push_value.ensures {u = tt}) (h)))
    c.push_possible.ensures
