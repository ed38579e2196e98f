use Rattle.std.proofs.Common.{◌≡◌, ◌++◌, ◌∷◌, List, [], map, take}
use Rattle.js_tree.specs.declared.lists.Further.{Further}
use Rattle.js_tree.specs.declared.tree.Slot.{Slot}
use Rattle.js_tree.specs.Parts.{Node, ASlot, node_of}
use Rattle.js_tree.specs.Spelling.Rows.{each_of}
use Rattle.js_tree.proofs.node_list.push_further_slots.Given as goal

abbrev pub invariant-loop-further : goal.invariant-loop-further
invariant-loop-further l = map node_of l.out.items ≡ map node_of l.initial.out.items ++ each_of (λ (x : Further Slot) (more : List Node). ASlot x.item ∷ more) (take l.further-index l.rest) []
