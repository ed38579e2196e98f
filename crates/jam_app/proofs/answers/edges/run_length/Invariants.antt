use Rattle.std.proofs.Common.{◌≤◌, ◌-◌, length, take}
use Rattle.jam_app.specs.Printing.{AreOfModule}
use Rattle.jam_app.proofs.answers.edges.run_length.Given as goal

abbrev pub invariant-loop-count : goal.invariant-loop-count
invariant-loop-count l = record {
  within : l.count ≤ length l.edges;
  run : AreOfModule l.m (take l.count l.edges);
}

abbrev pub decreases-loop-count : goal.decreases-loop-count
decreases-loop-count l = length l.edges - l.count
