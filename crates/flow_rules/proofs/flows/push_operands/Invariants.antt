use Rattle.std.proofs.Common.{◌≡◌, ◌++◌, take}
use Rattle.std.specs.List.{flat_map}
use Rattle.js_tree.specs.declared.lists.Further.{Further}
use Rattle.js_tree.specs.declared.tree.Expr.{Expr}
use Rattle.flow_rules.specs.AtHand.{facts_in}
use Rattle.flow_rules.specs.Flows.{joined_flow}
use Rattle.flow_rules.proofs.flows.push_operands.Given as goal

abbrev pub invariant-loop-further : goal.invariant-loop-further
invariant-loop-further l =
    l.out.items ≡ (l.fn.out.items ++ joined_flow (facts_in l.facts) l.mark l.first) ++ flat_map (λ (x : Further Expr). joined_flow (facts_in l.facts) l.mark x.item) (take l.further-index l.rest)
