use Rattle.std.proofs.Common.{◌∙◌, sym, ap}
use Rattle.std.specs.Prelude.{flat_map}
use Rattle.std.proofs.lemmas.List.Folds.{flat_map-map}
use Rattle.composer.specs.Application.{native_places}
use Rattle.composer.proofs.build.native_at.Goals as goal

pub loop-name-init : goal.loop-name-init
loop-name-init c = rw c.new-out.ensures.items (sym (flat_map-map native_places (λ name. name.now) c.names-name-items.result.now) ∙ ap (flat_map native_places) c.names-name-items.ensures)
