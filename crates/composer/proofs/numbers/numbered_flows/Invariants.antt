use Rattle.std.proofs.Common.{length}
use Rattle.composer.specs.Numbered.{Below, IsArrowIn, map_arrow}
use Rattle.composer.specs.Numbers.{vertex_at}
use Rattle.composer.proofs.NumberLemmas.{Numbers}
use Rattle.composer.proofs.numbers.numbered_flows.Given as goal

abbrev pub invariant-loop-flow : goal.invariant-loop-flow
invariant-loop-flow l = Numbers (map_arrow (vertex_at l.vertices)) (IsArrowIn (Below (length l.vertices))) l.out.items l.flows l.flow-index
