use Rattle.std.proofs.Common.{◌≡◌, ◌++◌, Some, take}
use Rattle.std.specs.List.{flat_map}
use Rattle.flow_rules.specs.declared.vertex.Vertex.TheVariants as vertex
use Rattle.flow_rules.specs.Calls.{flow, plain}
use Rattle.flow_rules.proofs.members.push_elements.Given as goal

abbrev pub invariant-loop-argument : goal.invariant-loop-argument
invariant-loop-argument l = l.out.items ≡ l.initial.out.items ++ flat_map (λ a. flow (plain a) (Some vertex.Elem)) (take l.argument-index l.args)
