use Rattle.std.proofs.Common.{◌≡◌, ◌++◌, ℕ, List, map, take}
use Rattle.jam_app.specs.declared.audit.noted.Noted.{Noted}
use Rattle.jam_app.specs.Notes.{note_at}
use Rattle.jam_app.specs.Printing.{spot_at, spot_of}
use Rattle.jam_app.proofs.audit.notes.push_noted.Given as goal

abbrev pub invariant-loop-i : goal.invariant-loop-i
invariant-loop-i l = (text : List ℕ) → map spot_of l.places ≡ map (λ (n : Noted). spot_at text n.offset) l.noted → l.notes.items ≡ l.fn.notes.items ++ map (note_at l.path text) (take l.i l.noted)
