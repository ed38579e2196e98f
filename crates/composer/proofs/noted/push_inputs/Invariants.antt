use Rattle.std.proofs.Common.{◌≡◌, ◌++◌, drop}
use Rattle.std.specs.Prelude.{flat_map}
use Rattle.composer.specs.Ways.{input_ways}
use Rattle.composer.specs.Work.{noted_of}
use Rattle.composer.proofs.noted.push_inputs.Given as goal

abbrev pub invariant-loop-input : goal.invariant-loop-input
invariant-loop-input l =
    l.ways.items ++ flat_map (input_ways l.system (noted_of l.sets.sets l.carried l.noted.vertex l.noted.count) l.site) (drop l.input-index l.site.args)
    ≡ l.fn.ways.items ++ flat_map (input_ways l.system (noted_of l.sets.sets l.carried l.noted.vertex l.noted.count) l.site) l.site.args
