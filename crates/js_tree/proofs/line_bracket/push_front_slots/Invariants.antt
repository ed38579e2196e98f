use Rattle.std.proofs.Common.{◌≡◌, ◌++◌, ◌∷◌, List, [], map, take}
use Rattle.js_tree.specs.declared.lists.Listed.{Listed}
use Rattle.js_tree.specs.declared.lists.Element.{Element}
use Rattle.js_tree.specs.declared.tree.Slot.{Slot}
use Rattle.js_tree.specs.Parts.{ASlot}
use Rattle.js_tree.specs.Line.{LineItem, AToken, ANode, item_of}
use Rattle.js_tree.specs.Line.{possible}
use Rattle.js_tree.specs.Spelling.Rows.{each_of}
use Rattle.js_tree.proofs.line_bracket.push_front_slots.Given as goal

abbrev pub invariant-loop-listed : goal.invariant-loop-listed
invariant-loop-listed l = map item_of l.out.items ≡ map item_of l.initial.out.items ++ each_of (λ (x : Listed (Element Slot)) (more : List LineItem). possible x.item.dots (ANode (ASlot x.item.value) ∷ AToken x.mark ∷ more)) (take l.listed-index l.front) []
