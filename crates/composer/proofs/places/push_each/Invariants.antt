use Rattle.std.proofs.Common.{◌≡◌, ◌++◌, drop}
use Rattle.composer.specs.Work.{places_of}
use Rattle.composer.proofs.places.push_each.Given as goal

abbrev pub invariant-loop-vertex : goal.invariant-loop-vertex
invariant-loop-vertex l = l.places.items ++ places_of l.number (drop l.vertex-index l.vertices) ≡ l.fn.places.items ++ places_of l.number l.vertices
