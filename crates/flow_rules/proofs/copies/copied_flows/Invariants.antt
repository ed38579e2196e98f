use Rattle.std.proofs.Common.{◌≡◌, ◌++◌, drop}
use Rattle.flow_rules.proofs.copies.copied_flows.Given as goal

abbrev pub invariant-loop-flow : goal.invariant-loop-flow
invariant-loop-flow l = l.out.items ++ drop l.flow-index l.flows ≡ l.flows
