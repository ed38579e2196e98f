use Rattle.std.proofs.Common.{◌≡◌, ◌+◌, length}
use Rattle.composer.specs.Work.{Begun}
use Rattle.composer.proofs.carry.place_literals.Given as goal

abbrev pub invariant-loop-callable : goal.invariant-loop-callable
invariant-loop-callable g l = record {
  begun : Begun l.system (length l.fn.sets.sets) l.callable-index 0 l.sets.sets l.pending.items;
  cost : l.steps ≡ l.fn.steps + l.callable-index;
}
