use Rattle.std.proofs.Common.{◌∷◌, List, [], map, refl}
use Rattle.std.proofs.lemmas.Result.{on_ok_weaker}
use Rattle.js_tree.specs.declared.lists.Further.{Further}
use Rattle.js_tree.specs.declared.tree.Slot.{Slot}
use Rattle.js_tree.specs.Line.{LineItem, AToken, ANode, item_of, items, possible}
use Rattle.js_tree.specs.Parts.{ASlot}
use Rattle.js_tree.specs.Spelling.Rows.{each_of}
use Rattle.js_tree.proofs.Adding.{put_onto}
use Rattle.js_tree.proofs.OntoLemmas.{then_put}
use Rattle.js_tree.proofs.line_list.push_vars.Goals as goal

pub returns : goal.returns
returns c =
    let row0 : List LineItem → List LineItem = (λ more. AToken c.args.word.now ∷ more) in
    let row1 : List LineItem → List LineItem = (λ more. ANode (ASlot c.args.first.now) ∷ more) in
    let row2 : List LineItem → List LineItem = each_of (λ (x : Further Slot) (more : List LineItem). AToken x.mark ∷ ANode (ASlot x.item) ∷ more) c.args.rest.now in
    let m0 = map item_of c.args.out.now.items in
    let m1 = map item_of c.push_token.new.out.items in
    let m2 = map item_of c.push_node.new.out.items in
    let m3 = map item_of c.push_further_slots.new.out.items in
    let new = map item_of c.push_possible.new.out.items in
    let rest3 = possible c.args.semi.now [] in
    let rest2 = row2 rest3 in
    let rest1 = row1 rest2 in
    on_ok_weaker c.push_possible.result
    (λ h. then_put row0 (λ more. refl) m0 m1 new rest1 (c.in_ok-push_token.ensures {u = tt}) (then_put row1 (λ more. refl) m1 m2 new rest2 (c.in_ok-push_node.ensures {u = tt}) (then_put row2 (put_onto (λ (x : Further Slot) (more : List LineItem). AToken x.mark ∷ ANode (ASlot x.item) ∷ more) (λ x more. refl) c.args.rest.now) m2 m3 new rest3 (c.in_ok-push_further_slots.ensures {u = tt}) (h))))
    c.push_possible.ensures
