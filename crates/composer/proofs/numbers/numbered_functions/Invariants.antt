use Rattle.std.proofs.Common.{length}
use Rattle.composer.specs.Numbered.{Below, IsCallableIn, map_callable}
use Rattle.composer.specs.Numbers.{value_at, vertex_at}
use Rattle.composer.proofs.NumberLemmas.{Numbers, HasPlaces}
use Rattle.composer.proofs.numbers.numbered_functions.Given as goal

abbrev pub invariant-loop-k : goal.invariant-loop-k
invariant-loop-k l = Numbers (map_callable (vertex_at l.vertices) (value_at l.system)) (IsCallableIn (Below (length l.vertices))) l.out.items l.system.functions l.k × HasPlaces l.out.items l.k
