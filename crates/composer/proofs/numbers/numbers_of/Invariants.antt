use Rattle.std.proofs.Common.{length}
use Rattle.composer.specs.Numbered.{Below}
use Rattle.composer.specs.Numbers.{vertex_at}
use Rattle.composer.proofs.NumberLemmas.{Numbers}
use Rattle.composer.proofs.numbers.numbers_of.Given as goal

abbrev pub invariant-loop-vertex : goal.invariant-loop-vertex
invariant-loop-vertex l = Numbers (vertex_at l.vertices) (Below (length l.vertices)) l.out.items l.some l.vertex-index
