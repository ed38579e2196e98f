use Rattle.std.proofs.Common.{◌≡◌, ◌++◌, drop}
use Rattle.std.specs.Prelude.{flat_map}
use Rattle.composer.specs.CallEdges.{edges_to, input_edges}
use Rattle.composer.specs.Numbers.{value_at}
use Rattle.composer.proofs.edges.push_input.Given as goal

abbrev pub invariant-loop-value : goal.invariant-loop-value
invariant-loop-value l = l.out.items ++ flat_map (λ t. edges_to l.m l.site (value_at l.system t)) (drop l.value-index l.value-items) ≡ l.fn.out.items ++ input_edges l.system l.sets.sets l.m l.site l.input
