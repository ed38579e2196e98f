use Rattle.std.proofs.Common.{◌≡◌, ◌++◌, map, take}
use Rattle.jam_app.specs.Notes.{own_noted}
use Rattle.jam_app.proofs.audit.noted.push_own.Given as goal

abbrev pub invariant-loop-note : goal.invariant-loop-note
invariant-loop-note l = l.made.items ≡ l.fn.made.items ++ map own_noted (take l.note-index l.own)
