use Rattle.std.proofs.Common.{◌≡◌, ◌++◌, take}
use Rattle.flow_rules.specs.Calls.{more_flows}
use Rattle.flow_rules.proofs.calls.push_more.Given as goal

abbrev pub invariant-loop-argument : goal.invariant-loop-argument
invariant-loop-argument l = l.out.items ≡ l.initial.out.items ++ more_flows l.offset l.part (take l.argument-index l.args)
