use Rattle.std.proofs.Common.{◌≡◌, ◌++◌, drop}
use Rattle.composer.specs.Steps.{to_each}
use Rattle.composer.proofs.noted.push_to_each.Given as goal

abbrev pub invariant-loop-to : goal.invariant-loop-to
invariant-loop-to l = l.ways.items ++ to_each l.from (drop l.to-index l.vertices) ≡ l.fn.ways.items ++ to_each l.from l.vertices
