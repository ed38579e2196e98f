use Rattle.std.proofs.Common.{◌-◌, length}
use Rattle.js_tree.specs.Lexical.{begin_trivia}
use Rattle.js_tree.specs.Lexical.Trivia as trivia
use Rattle.js_tokens.specs.Reading.{Sofar}
use Rattle.js_tokens.proofs.reach.trivia_len.Given as goal

abbrev pub invariant-loop-n : goal.invariant-loop-n
invariant-loop-n l = Sofar trivia.next trivia.may_end (begin_trivia l.fn.at) l.text l.n l.last l.part

abbrev pub decreases-loop-n : goal.decreases-loop-n
decreases-loop-n l = length l.text - l.n
