use Rattle.std.proofs.Common.{◌≡◌, ◌++◌, drop}
use Rattle.composer.proofs.numbers.push_vertices.Given as goal

abbrev pub invariant-loop-vertex : goal.invariant-loop-vertex
invariant-loop-vertex l = l.out.items ++ drop l.vertex-index l.vertices ≡ l.fn.out.items ++ l.vertices
