use Rattle.std.proofs.Common.{◌≡◌, ◌+◌, ◌*◌, length, take}
use Rattle.composer.specs.Work.{Offers}
use Rattle.composer.proofs.carry.carry_to_each.Given as goal

abbrev pub invariant-loop-vertex : goal.invariant-loop-vertex
invariant-loop-vertex g l = record {
  offers : Offers l.values (take l.vertex-index l.vertices) l.fn.sets.sets l.fn.pending.items l.sets.sets l.pending.items;
  cost : l.steps ≡ l.fn.steps + length l.values * l.vertex-index;
}
