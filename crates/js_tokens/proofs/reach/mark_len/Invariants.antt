use Rattle.std.proofs.Common.{◌≡◌, ◌-◌, length, take}
use Rattle.js_tokens.specs.Marks as marks
use Rattle.js_tokens.specs.Placed.{IsPlaced}
use Rattle.js_tokens.specs.Reading.{SofarBytes}
use Rattle.js_tokens.specs.declared.mark.MarkPart.TheVariants as part
use Rattle.js_tokens.proofs.reach.mark_len.Given as goal

abbrev pub invariant-loop-n : goal.invariant-loop-n
invariant-loop-n l = record {
  sofar : SofarBytes marks.next marks.may_end part.Front l.bytes l.n l.last.len l.part;
  text : take l.n l.bytes ≡ marks.text_of l.part;
  placed : IsPlaced l.bytes l.last;
}

abbrev pub decreases-loop-n : goal.decreases-loop-n
decreases-loop-n l = length l.bytes - l.n
