use Rattle.std.proofs.Common.{◌≡◌, ◌++◌, drop}
use Rattle.std.specs.Prelude.{flat_map, slice_get}
use Rattle.composer.specs.Ways.{callback_ways, input_ways}
use Rattle.composer.specs.Work.{noted_of}
use Rattle.composer.proofs.noted.push_input.Given as goal

abbrev pub invariant-loop-value : goal.invariant-loop-value
invariant-loop-value l =
    l.ways.items ++ flat_map (λ t. callback_ways l.system.elem l.site (slice_get l.system.functions t)) (drop l.value-index l.value-items)
    ≡ l.fn.ways.items ++ input_ways l.system (noted_of l.fn.sets.sets l.fn.carried l.fn.noted.vertex l.fn.noted.count) l.site l.input
