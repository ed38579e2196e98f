use Rattle.std.proofs.Common.{◌≡◌, ◌⊎◌, ◌≤◌, ◌-◌, ℕ, List, Option, Some}
use Rattle.std.specs.BTreeMap.{btree_map_len}
use Rattle.std.specs.Prelude.{Contains, IsSome}
use Rattle.std.specs.Option.{IfSome}
use Rattle.jam_app.specs.Entries.{begun, entry_path}
use Rattle.jam_app.specs.BetweenRounds.{HoldsAnalysed, Stands, found_at}
use Rattle.jam_app.proofs.loading.rounds.load_from.Given as goal

abbrev pub invariant-loop-alloc : goal.invariant-loop-alloc
invariant-loop-alloc g l = record {
  stands : IfSome (g.F.Folder.files l.fn.folder) (λ m. (asked : Option (List ℕ)) → entry_path asked m ≡ Some l.fn.first → Stands (begun asked l.skip) m l.progress l.round.items);
  held : HoldsAnalysed l.progress.modules;
  few : btree_map_len l.progress.modules ≤ l.progress.size.modules;
  there : IsSome (found_at l.progress.modules l.fn.first) ⊎ Contains l.round.items l.fn.first;
  modules : l.progress.size.modules ≤ 16384;
  bytes : l.progress.size.bytes ≤ 67108864;
  same : g.F.Folder.files l.folder ≡ g.F.Folder.files l.fn.folder;
  quiet : g.F.Folder.faults l.folder ≡ g.F.Folder.faults l.fn.folder;
}

abbrev pub decreases-loop-alloc : goal.decreases-loop-alloc
decreases-loop-alloc g l = 16384 - l.progress.size.modules
