use Rattle.std.proofs.Common.{◌≡◌, ◌≤◌, ◌-◌, length}
use Rattle.js_parser.proofs.ListLemmas.{Progress}
use Rattle.js_parser.proofs.SlotLemmas.{IsFurtherSlot, further_tall}
use Rattle.js_parser.specs.Following.{Stops}
use Rattle.js_parser.specs.Nodes.{further_slot_line}
use Rattle.js_parser.proofs.grammar.Grammar.further_slots.Given as goal

abbrev pub invariant-slots : goal.invariant-slots
invariant-slots g l = record {
  progress : Progress further_slot_line (IsFurtherSlot (l.self.room - 1)) (Stops 0) l.fn.reader l.all l.reader;
  height : l.height ≡ further_tall l.all;
  shorter : length l.reader.left ≤ length l.fn.reader.left;
}

abbrev pub decreases-slots : goal.decreases-slots
decreases-slots g l = length l.reader.left
