use Rattle.std.proofs.Common.{◌≡◌, ◌≤◌, take}
use Rattle.std.specs.List.{filter_map}
use Rattle.std.specs.Option.{IfSome}
use Rattle.jam_app.specs.Loading.{AreLed, missing_by}
use Rattle.jam_app.specs.Reading.{led_by}
use Rattle.jam_app.proofs.loading.ends.ends_of.Given as goal

abbrev pub invariant-loop-require : goal.invariant-loop-require
invariant-loop-require g l = record {
  ends : IfSome (g.F.Folder.files l.fn.folder) (λ m.
      (l.targets.items ≡ filter_map (led_by m l.from) (take l.require-index l.requires_)) × (l.missing.items ≡ filter_map (missing_by m l.from) (take l.require-index l.requires_)));
  lead : AreLed (take l.require-index l.requires_) l.targets.items;
  same : g.F.Folder.files l.folder ≡ g.F.Folder.files l.fn.folder;
  quiet : g.F.Folder.faults l.folder ≡ g.F.Folder.faults l.fn.folder;
}
