use Rattle.std.proofs.Common.{◌≡◌, ◌+◌, length}
use Rattle.composer.specs.Uses.{bases_of}
use Rattle.composer.specs.Work.{Rests, left, spent}
use Rattle.composer.proofs.worklist.solve.Given as goal

abbrev pub invariant-loop-vertex : goal.invariant-loop-vertex
invariant-loop-vertex g l = record {
  count_is : length l.state.outs ≡ l.count;
  rests : Rests l.system l.count l.state.sets.sets l.state.outs l.state.carried.items l.state.pending.items l.state.natives.items;
  cost : l.steps ≡ l.fn.steps + bases_of l.system + spent l.count l.state.carried.items l.state.outs;
}

abbrev pub decreases-loop-vertex : goal.decreases-loop-vertex
decreases-loop-vertex g l = left l.count (l.system.native + 1) l.state.sets.sets l.state.pending.items
