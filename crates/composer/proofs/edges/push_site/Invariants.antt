use Rattle.std.proofs.Common.{◌≡◌, ◌++◌, drop}
use Rattle.std.specs.Prelude.{flat_map}
use Rattle.composer.specs.CallEdges.{called_edges, site_edges}
use Rattle.composer.specs.Numbers.{value_at}
use Rattle.composer.proofs.edges.push_site.Given as goal

abbrev pub invariant-loop-value : goal.invariant-loop-value
invariant-loop-value l = l.out.items ++ flat_map (λ t. called_edges l.system l.sets.sets l.m l.site l.numbers (value_at l.system t)) (drop l.value-index l.value-items) ≡ l.fn.out.items ++ site_edges l.system l.sets.sets l.m l.site l.numbers
