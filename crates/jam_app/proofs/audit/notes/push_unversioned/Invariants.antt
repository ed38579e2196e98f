use Rattle.std.proofs.Common.{◌≡◌, ◌++◌, map}
use Rattle.alarms.specs.Alarms.{unversioned}
use Rattle.jam_app.specs.Notes.{unversioned_note}
use Rattle.jam_app.proofs.audit.notes.push_unversioned.Given as goal

abbrev pub invariant-loop-location : goal.invariant-loop-location
invariant-loop-location l = l.notes.items ++ map unversioned_note l.location-iterator.rest.items ≡ l.fn.notes.items ++ map unversioned_note (unversioned l.advisories l.lock.entries)
