use Rattle.std.proofs.Common.{◌≡◌, ◌++◌, drop, map}
use Rattle.composer.specs.Application.{flow_of}
use Rattle.composer.proofs.build.push_flows.Given as goal

abbrev pub invariant-loop-flow : goal.invariant-loop-flow
invariant-loop-flow l = l.out.items ++ map (flow_of l.m) (drop l.flow-index l.flows) ≡ l.fn.out.items ++ map (flow_of l.m) l.flows
