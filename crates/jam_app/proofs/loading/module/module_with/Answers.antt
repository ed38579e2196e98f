use Rattle.std.proofs.Common.{refl, ap, ◌∙◌}
use Rattle.std.specs.List.{filter_map}
use Rattle.jam_app.specs.Loading.{missing_by}
use Rattle.jam_app.specs.Reading.{led_by}
use Rattle.jam_app.proofs.Causes.{told}
use Rattle.jam_app.proofs.Targets.{is_resolved}
use Rattle.jam_app.proofs.loading.module.module_with.Goals as goal

pub returns-clause-gives : goal.returns-clause-gives
returns-clause-gives g c =
    let requires_ = c.requires_-requires_.ensures.requires_ in
    told (g.F.Folder.files c.args.folder.now) c.in_ok-ends.ensures.gives (λ m ends. (
      refl,
      is_resolved m _ c.in_ok-summary.ensures (ends.targets ∙ ap (filter_map (led_by m c.args.parsed.source.path)) requires_) (ends.missing ∙ ap (filter_map (missing_by m c.args.parsed.source.path)) requires_),
    ))
