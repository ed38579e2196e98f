use Rattle.std.proofs.Common.{◌≡◌, ◌≤◌, ◌+◌, ℕ, length, drop}
use Rattle.composer.specs.Work.{Notes, first_of, left, spent}
use Rattle.composer.proofs.worklist.note_each.Given as goal

abbrev pub invariant-loop-value : goal.invariant-loop-value
invariant-loop-value g l = record {
  vertex_is : l.noted.vertex ≡ l.fn.noted.vertex;
  count_is : l.noted.count ≡ l.fn.noted.count + l.value-index;
  same_length : length l.state.outs ≡ length l.fn.state.outs;
  same : l.state.carried.items ≡ l.fn.state.carried.items;
  notes : Notes l.system (length l.fn.state.outs) l.state.sets.sets l.state.outs l.state.carried.items l.state.pending.items l.state.natives.items l.noted.vertex l.noted.count;
  next : drop l.value-index l.values ≡ drop l.noted.count (first_of l.state.sets.sets l.state.carried.items l.noted.vertex);
  cost : l.steps + spent (length l.fn.state.outs) l.fn.state.carried.items l.fn.state.outs ≡ l.fn.steps + spent (length l.fn.state.outs) l.fn.state.carried.items l.state.outs;
  less : left (length l.fn.state.outs) (l.system.native + 1) l.state.sets.sets l.state.pending.items ≤ left (length l.fn.state.outs) (l.system.native + 1) l.fn.state.sets.sets l.fn.state.pending.items;
}
