use Rattle.std.proofs.Common.{◌≡◌, take, flat_map}
use Rattle.jam_app.specs.Notes.{loaded_notes}
use Rattle.jam_app.proofs.audit.notes.notes_of.Given as goal

abbrev pub invariant-loop-m : goal.invariant-loop-m
invariant-loop-m l = l.notes.items ≡ flat_map (loaded_notes l.lock.entries) (take l.m l.loaded)
