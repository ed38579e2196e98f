use Rattle.std.proofs.Common.{◌≡◌, ◌≤◌, ◌+◌, ◌++◌, length}
use Rattle.std.specs.BTreeMap.{btree_map_len}
use Rattle.jam_app.specs.BetweenRounds.{found_at}
use Rattle.jam_app.proofs.Keeping.{Kept}
use Rattle.jam_app.proofs.loading.rounds.keep.Given as goal

abbrev pub invariant-loop-module : goal.invariant-loop-module
invariant-loop-module l = record {
  can : goal.iterator-loop-module.can_next l.module-iterator;
  finite : goal.iterator-loop-module.is_finite l.module-iterator;
  parts : l.fn.modules.items ≡ l.yielded ++ l.module-iterator.rest.items;
  few : btree_map_len l.kept ≤ btree_map_len l.fn.kept + length l.yielded;
  kept : Kept (found_at l.fn.kept) (found_at l.kept) l.yielded;
}
