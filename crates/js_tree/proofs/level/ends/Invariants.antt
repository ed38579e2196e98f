use Rattle.std.proofs.Common.{◌≡◌, take}
use Rattle.js_tree.specs.Spelling.Chains.{ends_in_member}
use Rattle.js_tree.proofs.level.ends.Given as goal

abbrev pub invariant-loop-tail : goal.invariant-loop-tail
invariant-loop-tail l = l.last ≡ ends_in_member (take l.tail-index l.tails)
