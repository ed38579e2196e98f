use Rattle.std.proofs.Common.{◌∷◌, List, [], map}
use Rattle.std.proofs.lemmas.Result.{on_ok_weaker}
use Rattle.js_tree.specs.Line.{LineItem, ANode, item_of, items, possible}
use Rattle.js_tree.specs.Parts.{ASlot}
use Rattle.js_tree.proofs.Adding.{possible_onto}
use Rattle.js_tree.proofs.OntoLemmas.{then_put}
use Rattle.js_tree.proofs.line_bracket.push_element_slot.Goals as goal

pub returns : goal.returns
returns c =
    let row0 : List LineItem → List LineItem = possible c.args.element.now.dots in
    let m0 = map item_of c.args.out.now.items in
    let m1 = map item_of c.push_possible.new.out.items in
    let new = map item_of c.push_node.new.out.items in
    let rest1 = ANode (ASlot c.args.element.now.value) ∷ [] in
    on_ok_weaker c.push_node.result
    (λ h. then_put row0 (λ more. possible_onto c.args.element.now.dots [] more) m0 m1 new rest1 (c.in_ok-push_possible.ensures {u = tt}) (h))
    c.push_node.ensures
