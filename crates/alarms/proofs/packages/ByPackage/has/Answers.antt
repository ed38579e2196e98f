use Rattle.std.proofs.Common.{◌≡◌, ◌==◌, ℕ, List, length, not, ap, sym, ◌∙◌}
use Rattle.alarms.proofs.PackageLemmas.{any_place}
use Rattle.alarms.proofs.packages.ByPackage.has.Goals as goal

pub returns : goal.returns
returns c = ap not (c.is_empty.ensures ∙ ap (λ (ps : List ℕ). length ps == 0) c.places.ensures) ∙ sym (any_place 0 c.args.name.now c.args.self.now)
