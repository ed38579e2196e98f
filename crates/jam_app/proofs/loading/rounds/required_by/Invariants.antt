use Rattle.std.proofs.Common.{◌≡◌, take}
use Rattle.std.specs.List.{flat_map}
use Rattle.jam_app.specs.Reading.{led_from}
use Rattle.jam_app.proofs.loading.rounds.required_by.Given as goal

abbrev pub invariant-loop-module : goal.invariant-loop-module
invariant-loop-module l = l.paths.items ≡ flat_map led_from (take l.module-index l.modules)
