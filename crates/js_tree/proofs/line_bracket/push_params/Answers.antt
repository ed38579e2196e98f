use Rattle.std.proofs.Common.{◌++◌, ◌∷◌, List, [], map, refl, ap, ◌∙◌}
use Rattle.std.proofs.lemmas.Result.{on_ok_weaker}
use Rattle.js_tree.specs.Line.{LineItem, AToken, ANode, given_marks, item_of, items}
use Rattle.js_tree.specs.Parts.{ASlot}
use Rattle.js_tree.specs.Spelling.Rows.{each_of, element_row, listed_row, maybe}
use Rattle.js_tree.proofs.Adding.{put_onto, possible_onto}
use Rattle.js_tree.proofs.OntoLemmas.{then_put, slot_last_onto}
use Rattle.js_tree.proofs.line_bracket.push_params.Goals as goal

pub returns : goal.returns
returns c =
    let row0 : List LineItem → List LineItem = (λ more. AToken c.args.bracket.now.«open» ∷ more) in
    let row1 : List LineItem → List LineItem = each_of (listed_row given_marks (element_row given_marks items.slot)) c.args.bracket.now.front in
    let row2 : List LineItem → List LineItem = maybe (element_row given_marks items.slot) c.args.bracket.now.last in
    let m0 = map item_of c.args.out.now.items in
    let m1 = map item_of c.push_token.new.out.items in
    let m2 = map item_of c.push_front_slots.new.out.items in
    let m3 = map item_of c.push_last_slot.new.out.items in
    let new = map item_of c.push_token-2.new.out.items in
    let rest3 = AToken c.args.bracket.now.close ∷ [] in
    let rest2 = row2 rest3 in
    let rest1 = row1 rest2 in
    on_ok_weaker c.push_token-2.result
    (λ h. then_put row0 (λ more. refl) m0 m1 new rest1 (c.in_ok-push_token.ensures {u = tt}) (then_put row1 (put_onto (listed_row given_marks (element_row given_marks items.slot)) (λ x more. possible_onto x.item.dots (ANode (ASlot x.item.value) ∷ AToken x.mark ∷ []) more) c.args.bracket.now.front) m1 m2 new rest2 (c.in_ok-push_front_slots.ensures {u = tt} ∙ ap (λ xs. m1 ++ each_of (listed_row given_marks (element_row given_marks items.slot)) xs []) c.as_slice.ensures) (then_put row2 (slot_last_onto c.args.bracket.now.last) m2 m3 new rest3 (c.in_ok-push_last_slot.ensures {u = tt}) (h))))
    c.push_token-2.ensures
