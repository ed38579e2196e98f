use Rattle.std.proofs.Common.{◌≡◌, ◌++◌, take, string_bytes}
use Rattle.std.specs.Prelude.{flat_map}
use Rattle.report_text.specs.Reports.{note_text}
use Rattle.report_text.proofs.lines.push_notes.Given as goal

abbrev pub invariant-loop-note : goal.invariant-loop-note
invariant-loop-note l = string_bytes l.out ≡ string_bytes l.initial.out ++ flat_map note_text (take l.note-index l.notes)
