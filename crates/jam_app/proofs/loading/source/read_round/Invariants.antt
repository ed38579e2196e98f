use Rattle.std.proofs.Common.{◌≡◌, ◌+◌, ◌++◌, ◌≤◌, length, map}
use Rattle.std.specs.Option.{IfSome}
use Rattle.jam_app.specs.declared.loading.source.Source.{Source}
use Rattle.jam_app.proofs.Sizes.{Taken}
use Rattle.jam_app.proofs.loading.source.read_round.Given as goal

abbrev pub invariant-loop-path : goal.invariant-loop-path
invariant-loop-path g l = record {
  can : (goal.iterator-loop-path g).can_next l.path-iterator;
  finite : (goal.iterator-loop-path g).is_finite l.path-iterator;
  parts : l.fn.round.items ≡ l.yielded ++ l.path-iterator.rest.items;
  taken : IfSome (g.F.Folder.files l.fn.folder) (λ m. Taken m l.fn.size l.size l.sources.items l.yielded);
  paths : map (λ (s : Source). s.path) l.sources.items ≡ l.yielded;
  counted : l.size.modules ≡ l.fn.size.modules + length l.yielded;
  modules : l.size.modules ≤ 16384;
  bytes : l.size.bytes ≤ 67108864;
  same : g.F.Folder.files l.folder ≡ g.F.Folder.files l.fn.folder;
  quiet : g.F.Folder.faults l.folder ≡ g.F.Folder.faults l.fn.folder;
}
