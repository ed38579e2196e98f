use Rattle.std.proofs.Common.{◌≡◌, ◌++◌, ◌∷◌, List, [], map, take}
use Rattle.js_tree.specs.declared.lists.Further.{Further}
use Rattle.js_tree.specs.declared.tree.Slot.{Slot}
use Rattle.js_tree.specs.Parts.{ASlot}
use Rattle.js_tree.specs.Line.{LineItem, AToken, ANode, item_of}
use Rattle.js_tree.specs.Spelling.Rows.{each_of}
use Rattle.js_tree.proofs.line_list.push_further_slots.Given as goal

abbrev pub invariant-loop-further : goal.invariant-loop-further
invariant-loop-further l = map item_of l.out.items ≡ map item_of l.initial.out.items ++ each_of (λ (x : Further Slot) (more : List LineItem). AToken x.mark ∷ ANode (ASlot x.item) ∷ more) (take l.further-index l.rest) []
