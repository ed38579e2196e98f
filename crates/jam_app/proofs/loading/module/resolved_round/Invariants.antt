use Rattle.std.proofs.Common.{◌≡◌, ◌++◌, ◌≤◌, map}
use Rattle.std.specs.Prelude.{All}
use Rattle.std.specs.Option.{IfSome}
use Rattle.jam_app.specs.declared.loading.loaded.Loaded.{Loaded}
use Rattle.jam_app.specs.declared.loading.module.Parsed.{Parsed}
use Rattle.jam_app.specs.Loading.{IsAnalysed}
use Rattle.jam_app.specs.Reading.{IsResolved, parsed_of}
use Rattle.jam_app.proofs.loading.module.resolved_round.Given as goal

abbrev pub invariant-loop-parsed : goal.invariant-loop-parsed
invariant-loop-parsed g l = record {
  can : (goal.iterator-loop-parsed g).can_next l.parsed-iterator;
  finite : (goal.iterator-loop-parsed g).is_finite l.parsed-iterator;
  parts : l.fn.round.items ≡ l.yielded ++ l.parsed-iterator.rest.items;
  read : IfSome (g.F.Folder.files l.fn.folder) (λ m. (map parsed_of l.modules.items ≡ l.yielded) × All (IsResolved m) l.modules.items);
  paths : map (λ (l : Loaded). l.path) l.modules.items ≡ map (λ (p : Parsed). p.source.path) l.yielded;
  analysed : All IsAnalysed l.modules.items;
  same : g.F.Folder.files l.folder ≡ g.F.Folder.files l.fn.folder;
  quiet : g.F.Folder.faults l.folder ≡ g.F.Folder.faults l.fn.folder;
}
