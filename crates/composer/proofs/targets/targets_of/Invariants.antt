use Rattle.std.proofs.Common.{◌≡◌, ℕ, length, take}
use Rattle.composer.specs.Rows.{row}
use Rattle.composer.specs.Work.{targets_from}
use Rattle.composer.proofs.targets.targets_of.Given as goal

abbrev pub invariant-loop-way : goal.invariant-loop-way
invariant-loop-way l = record {
  count_is : length l.targets ≡ l.count;
  so_far : (v : ℕ) → row l.targets v ≡ targets_from v (take l.way-index l.ways);
}
