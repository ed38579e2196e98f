use Rattle.std.proofs.Common.{◌≡◌, ◌++◌, take}
use Rattle.std.specs.List.{flat_map}
use Rattle.js_tree.specs.declared.lists.Arm.{Arm}
use Rattle.js_tree.specs.declared.tree.Expr.{Expr}
use Rattle.flow_rules.specs.AtHand.{facts_in}
use Rattle.flow_rules.specs.Flows.{joined_flow}
use Rattle.flow_rules.proofs.flows.push_choice.Given as goal

abbrev pub invariant-loop-arm : goal.invariant-loop-arm
invariant-loop-arm l = l.out.items ≡ l.initial.out.items ++ flat_map (λ (x : Arm Expr). joined_flow (facts_in l.facts) l.mark x.value) (take l.arm-index l.arms)
