use Rattle.std.proofs.Common.{◌≡◌, ◌++◌, drop}
use Rattle.flow_rules.specs.Calls.{argument_flows}
use Rattle.flow_rules.proofs.calls.push_arguments.Given as goal

abbrev pub invariant-loop-argument : goal.invariant-loop-argument
invariant-loop-argument l = record {
  place : l.index ≡ l.argument-index;
  more : l.out.items ++ argument_flows l.offset l.part l.index (drop l.argument-index l.args) ≡ l.initial.out.items ++ argument_flows l.offset l.part 0 l.args;
}
