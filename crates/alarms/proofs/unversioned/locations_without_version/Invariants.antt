use Rattle.std.proofs.Common.{◌≡◌, take}
use Rattle.alarms.specs.Alarms.{unversioned}
use Rattle.alarms.proofs.unversioned.locations_without_version.Given as goal

abbrev pub invariant-loop-entry : goal.invariant-loop-entry
invariant-loop-entry l = l.locations.items ≡ unversioned l.advisories (take l.entry-index l.entry-items)
