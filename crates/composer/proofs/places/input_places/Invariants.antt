use Rattle.std.proofs.Common.{◌≡◌, ◌++◌, drop}
use Rattle.composer.specs.Work.{input_places}
use Rattle.composer.proofs.places.input_places.Given as goal

abbrev pub invariant-loop-k : goal.invariant-loop-k
invariant-loop-k l = l.places.items ++ input_places l.k (drop l.k l.sites) ≡ input_places 0 l.sites
