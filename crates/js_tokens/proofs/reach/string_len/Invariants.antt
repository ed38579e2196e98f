use Rattle.std.proofs.Common.{◌-◌, length}
use Rattle.js_tree.specs.Lexical.Quoted as quoted
use Rattle.js_tree.specs.declared.part.StringPart.TheVariants as part
use Rattle.js_tokens.specs.Reading.{SofarBytes}
use Rattle.js_tokens.proofs.reach.string_len.Given as goal

abbrev pub invariant-loop-n : goal.invariant-loop-n
invariant-loop-n l = SofarBytes (quoted.next l.quote) quoted.may_end part.Front l.bytes l.n l.last l.part

abbrev pub decreases-loop-n : goal.decreases-loop-n
decreases-loop-n l = length l.bytes - l.n
