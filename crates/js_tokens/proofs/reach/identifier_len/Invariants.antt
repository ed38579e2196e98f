use Rattle.std.proofs.Common.{◌-◌, length}
use Rattle.js_tree.specs.Lexical.Name as name
use Rattle.js_tokens.specs.Reading.{Sofar}
use Rattle.js_tokens.proofs.reach.identifier_len.Given as goal

abbrev pub invariant-loop-n : goal.invariant-loop-n
invariant-loop-n l = Sofar name.next name.may_end name.Front l.text l.n l.n name.Within

abbrev pub decreases-loop-n : goal.decreases-loop-n
decreases-loop-n l = length l.text - l.n
