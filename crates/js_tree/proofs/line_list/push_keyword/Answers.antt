use Rattle.std.proofs.Common.{◌∷◌, List, [], map, refl}
use Rattle.std.proofs.lemmas.Result.{on_ok_weaker}
use Rattle.js_tree.specs.Line.{LineItem, AToken, given_marks, item_of, items, possible}
use Rattle.js_tree.specs.Spelling.Rows.{bracket_row, each_of}
use Rattle.js_tree.proofs.Adding.{possible_onto}
use Rattle.js_tree.proofs.OntoLemmas.{then_put, param_items_onto}
use Rattle.js_tree.proofs.line_list.push_keyword.Goals as goal

pub returns : goal.returns
returns c =
    let row0 : List LineItem → List LineItem = (λ more. AToken c.args.word.now ∷ more) in
    let row1 : List LineItem → List LineItem = possible c.args.name.now in
    let row2 : List LineItem → List LineItem = bracket_row given_marks items.slot c.args.params.now in
    let m0 = map item_of c.args.out.now.items in
    let m1 = map item_of c.push_token.new.out.items in
    let m2 = map item_of c.push_possible.new.out.items in
    let m3 = map item_of c.push_params.new.out.items in
    let new = map item_of c.push_block.new.out.items in
    let rest3 = AToken c.args.body.now.begin ∷ each_of items.stmt c.args.body.now.body (AToken c.args.body.now.end ∷ []) in
    let rest2 = row2 rest3 in
    let rest1 = row1 rest2 in
    on_ok_weaker c.push_block.result
    (λ h. then_put row0 (λ more. refl) m0 m1 new rest1 (c.in_ok-push_token.ensures {u = tt}) (then_put row1 (λ more. possible_onto c.args.name.now [] more) m1 m2 new rest2 (c.in_ok-push_possible.ensures {u = tt}) (then_put row2 (λ more. param_items_onto more c.args.params.now) m2 m3 new rest3 (c.in_ok-push_params.ensures {u = tt}) (h))))
    c.push_block.ensures
