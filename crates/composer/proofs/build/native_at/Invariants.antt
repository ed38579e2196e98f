use Rattle.std.proofs.Common.{◌≡◌, ◌++◌, drop}
use Rattle.std.specs.Prelude.{flat_map}
use Rattle.composer.specs.Application.{native_places}
use Rattle.composer.specs.Natives.{native_names}
use Rattle.composer.proofs.build.native_at.Given as goal

abbrev pub invariant-loop-name : goal.invariant-loop-name
invariant-loop-name l = l.out.items ++ flat_map (λ name. native_places name.now) (drop l.name-index l.name-items) ≡ flat_map native_places native_names
