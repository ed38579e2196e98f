use Rattle.std.proofs.Common.{◌≤◌, length}
use Rattle.reach_path.specs.Lasts.{AreLasts}
use Rattle.reach_path.proofs.lasts.lasts_of.Given as goal

abbrev pub invariant-loop-left : goal.invariant-loop-left
invariant-loop-left l = record {
  within : l.left ≤ length l.graph.edges;
  lasts : AreLasts l.graph l.levels l.left l.lasts.items;
}

abbrev pub decreases-loop-left : goal.decreases-loop-left
decreases-loop-left l = l.left
