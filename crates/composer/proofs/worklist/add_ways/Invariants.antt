use Rattle.std.proofs.Common.{◌≡◌, ◌+◌, length, take}
use Rattle.composer.specs.Work.{Adds, spent}
use Rattle.composer.proofs.worklist.add_ways.Given as goal

abbrev pub invariant-loop-way : goal.invariant-loop-way
invariant-loop-way g l = record {
  adds : Adds l.system (length l.fn.state.outs) (take l.way-index l.ways) l.fn.state.carried.items l.fn.state.sets.sets l.fn.state.outs l.fn.state.pending.items l.state.sets.sets l.state.outs l.state.pending.items;
  carried : l.state.carried.items ≡ l.fn.state.carried.items;
  natives : l.state.natives.items ≡ l.fn.state.natives.items;
  cost : l.steps + spent (length l.fn.state.outs) l.fn.state.carried.items l.fn.state.outs ≡ l.fn.steps + spent (length l.fn.state.outs) l.fn.state.carried.items l.state.outs;
}
