use Rattle.std.proofs.Common.{◌≡◌, ◌+◌, length}
use Rattle.composer.specs.Work.{Begun}
use Rattle.composer.proofs.carry.place_natives.Given as goal

abbrev pub invariant-loop-vertex : goal.invariant-loop-vertex
invariant-loop-vertex g l = record {
  begun : Begun l.system (length l.fn.sets.sets) (length l.system.functions) l.vertex-index l.sets.sets l.pending.items;
  cost : l.steps ≡ l.fn.steps + l.vertex-index;
}
