use Rattle.std.proofs.Common.{◌-◌, length}
use Rattle.js_tree.specs.Lexical.Number as number
use Rattle.js_tree.specs.declared.part.NumberPart.TheVariants as part
use Rattle.js_tokens.specs.Reading.{SofarBytes}
use Rattle.js_tokens.proofs.reach.number_len.Given as goal

abbrev pub invariant-loop-n : goal.invariant-loop-n
invariant-loop-n l = SofarBytes number.next number.may_end part.Front l.bytes l.n l.last l.part

abbrev pub decreases-loop-n : goal.decreases-loop-n
decreases-loop-n l = length l.bytes - l.n
