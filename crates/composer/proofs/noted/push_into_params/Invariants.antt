use Rattle.std.proofs.Common.{◌≡◌, ◌++◌, length}
use Rattle.composer.specs.Steps.{into_params}
use Rattle.composer.proofs.noted.push_into_params.Given as goal

abbrev pub invariant-loop-sources : goal.invariant-loop-sources
invariant-loop-sources l = l.ways.items ++ into_params l.sources l.targets l.rest ≡ l.fn.ways.items ++ into_params l.args l.params l.rest

abbrev pub decreases-loop-sources : goal.decreases-loop-sources
decreases-loop-sources l = length l.sources
