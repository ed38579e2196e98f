use Rattle.std.proofs.Common.{◌≡◌, map, take}
use Rattle.jam_app.specs.Showing.{shown_found}
use Rattle.jam_app.proofs.audit.showing.shown_alarms.Given as goal

abbrev pub invariant-loop-one : goal.invariant-loop-one
invariant-loop-one l = l.alarms.items ≡ map (shown_found l.sources) (take l.one-index l.found)
