use Rattle.std.proofs.Common.{◌≡◌, ◌++◌, drop}
use Rattle.composer.specs.Work.{callee_ways, noted_of}
use Rattle.composer.proofs.noted.push_at_callees.Given as goal

abbrev pub invariant-loop-site : goal.invariant-loop-site
invariant-loop-site l =
    l.ways.items ++ callee_ways l.system (noted_of l.sets.sets l.carried l.noted.vertex l.noted.count) (drop l.site-index l.callers) l.value
    ≡ l.fn.ways.items ++ callee_ways l.system (noted_of l.sets.sets l.carried l.noted.vertex l.noted.count) l.callers l.value
