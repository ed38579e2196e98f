use Rattle.std.proofs.Common.{◌-◌, length}
use Rattle.js_tree.specs.Lexical.Regex as regex
use Rattle.js_tree.specs.declared.part.RegexPart.TheVariants as part
use Rattle.js_tokens.specs.Reading.{Sofar}
use Rattle.js_tokens.proofs.reach.regex_len.Given as goal

abbrev pub invariant-loop-n : goal.invariant-loop-n
invariant-loop-n l = Sofar regex.next regex.may_end part.Front l.text l.n l.last l.part

abbrev pub decreases-loop-n : goal.decreases-loop-n
decreases-loop-n l = length l.text - l.n
