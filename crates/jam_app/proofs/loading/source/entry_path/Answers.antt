use Rattle.std.specs.Option.{option_map}
use Rattle.jam_app.specs.Entries.{begun}
use Rattle.jam_app.proofs.Causes.{counts_stop, no_module}
use Rattle.jam_app.proofs.loading.source.entry_path.Goals as goal

pub returns-in-None-clause-gives : goal.returns-in-None-clause-gives
returns-in-None-clause-gives g c =
    no_module (option_map (λ t. t.now) c.args.entry) (g.F.Folder.files c.args.folder.now) _ _ c.no_entry.result c.in-Ok.target c.module_path.result c.in-Ok.ensures.target c.module_path.ensures c.in-None.is c.no_entry.ensures

pub returns-in-None-clause-counts : goal.returns-in-None-clause-counts
returns-in-None-clause-counts g c = counts_stop _ _ c.no_entry.result (c.in-Ok.ensures.cause.kept)
