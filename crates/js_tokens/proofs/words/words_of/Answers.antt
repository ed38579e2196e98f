use Rattle.std.proofs.Common.{arith, ◌≡◌, ◌+◌, ◌-◌}
use Rattle.js_tokens.proofs.WordLemmas.{span}
use Rattle.js_tokens.proofs.words.words_of.Goals as goal

pub returns-clause-span : goal.returns-clause-span
returns-clause-span c = let is : c.args.letter ≡ 97 + (c.args.letter - 97) = omega arith in span c.args.letter (c.args.letter - 97) is (omega arith)

pub returns-clause-order : goal.returns-clause-order
returns-clause-order c = let is : c.args.letter ≡ 97 + (c.args.letter - 97) = omega arith in (span c.args.letter (c.args.letter - 97) is (omega arith)).order

pub returns-clause-end : goal.returns-clause-end
returns-clause-end c = let is : c.args.letter ≡ 97 + (c.args.letter - 97) = omega arith in (span c.args.letter (c.args.letter - 97) is (omega arith)).end
