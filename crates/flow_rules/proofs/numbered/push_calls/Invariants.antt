use Rattle.std.proofs.Common.{◌≡◌, ◌≤◌, ◌++◌, length, take, drop}
use Rattle.flow_rules.specs.Numbered.{numbered_calls}
use Rattle.flow_rules.proofs.numbered.push_calls.Given as goal

abbrev pub invariant-loop-left : goal.invariant-loop-left
invariant-loop-left l = record {
  within : l.left ≤ length l.tails;
  found : l.out.items ≡ l.initial.out.items ++ numbered_calls (take l.left l.tails) (drop l.left l.tails);
}

abbrev pub decreases-loop-left : goal.decreases-loop-left
decreases-loop-left l = l.left
