use Rattle.std.proofs.Common.{◌≡◌, ◌++◌, drop}
use Rattle.composer.specs.Work.{input_ways_of}
use Rattle.composer.proofs.noted.push_at_inputs.Given as goal

abbrev pub invariant-loop-site : goal.invariant-loop-site
invariant-loop-site l = l.ways.items ++ input_ways_of l.system l.natives (drop l.site-index l.takers) l.value ≡ l.fn.ways.items ++ input_ways_of l.system l.natives l.takers l.value
