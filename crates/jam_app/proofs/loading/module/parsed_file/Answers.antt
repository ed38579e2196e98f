use Rattle.std.proofs.Common.{◌≡◌, List, ℕ, refl, subst}
use Rattle.jam_app.specs.Stops.{HasBadCause}
use Rattle.jam_app.specs.Texts.{IsOnlyTree, only}
use Rattle.jam_app.proofs.loading.module.parsed_file.Goals as goal

pub returns-in-Ok-clause-ok : goal.returns-in-Ok-clause-ok
returns-in-Ok-clause-ok g c = (refl, only refl (subst (λ (b : List ℕ). IsOnlyTree b c.in-Ok.tree) c.as_str.ensures c.in-Ok.ensures))

pub without_tree-requires : goal.without_tree-requires
without_tree-requires g c = subst (λ (b : List ℕ). HasBadCause b c.in-Err.bad) c.as_str.ensures c.in-Err.ensures
