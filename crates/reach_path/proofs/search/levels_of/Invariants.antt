use Rattle.std.proofs.Common.{◌-◌}
use Rattle.reach_path.specs.Search.{IsSearch}
use Rattle.reach_path.proofs.search.levels_of.Given as goal

abbrev pub invariant-loop-i : goal.invariant-loop-i
invariant-loop-i l = IsSearch l.graph l.i l.search.levels.items l.search.order.items

abbrev pub decreases-loop-i : goal.decreases-loop-i
decreases-loop-i l = l.graph.nodes - l.i
