use Rattle.std.proofs.Common.{◌≡◌, ◌++◌, drop}
use Rattle.composer.specs.Work.{callee_places}
use Rattle.composer.proofs.places.callee_places.Given as goal

abbrev pub invariant-loop-k : goal.invariant-loop-k
invariant-loop-k l = l.places.items ++ callee_places l.k (drop l.k l.sites) ≡ callee_places 0 l.sites
