use Rattle.std.proofs.Common.{◌≡◌, ◌+◌, take}
use Rattle.composer.specs.Work.{Inserts}
use Rattle.composer.proofs.carry.insert_each.Given as goal

abbrev pub invariant-loop-value : goal.invariant-loop-value
invariant-loop-value g l = record {
  inserts : Inserts (take l.value-index l.values) l.vertex l.fn.sets.sets l.sets.sets;
  cost : l.steps ≡ l.fn.steps + l.value-index;
}
