-- The reports: which functions that advisories name can be reached, and what was noted on the way, as lines of text.
use Rattle.std.specs.Prelude.{ℕ, List, [], ◌∷◌, ◌++◌, codes, Option, Some, None}
use Rattle.std.specs.List.{flat_map}
use Rattle.std.specs.Fmt.{decimal}
use Rattle.report_text.specs.declared.report.Alarm.{Alarm}
use Rattle.report_text.specs.declared.report.Counts.{Counts}
use Rattle.report_text.specs.declared.report.LineColumn.{LineColumn}
use Rattle.report_text.specs.declared.report.Note.{Note}
use Rattle.report_text.specs.declared.report.Report.{Report}
use Rattle.report_text.specs.declared.shown.PathStep.{PathStep}
use Rattle.report_text.specs.declared.shown.Shown.{Shown}
use Rattle.report_text.specs.Escape.{escaped}
use Rattle.report_text.specs.Graph.{place_text, step_text}

abbrev pub line_end : List ℕ
line_end = 10 ∷ []

-- `PATH:LINE:COLUMN NAME`
abbrev pub function_text : Shown → List ℕ
function_text f = place_text f.path f.line f.column ++ codes " " ++ escaped f.name

-- `  PATH:LINE:COLUMN -> PATH:LINE:COLUMN NAME`
abbrev pub path_line : PathStep → List ℕ
path_line step = codes "  " ++ step_text step ++ line_end

-- `alarm ID PACKAGE VERSION PATH:LINE:COLUMN NAME`, and behind it a line for each edge of the path
abbrev pub alarm_text : Alarm → List ℕ
alarm_text a =
    codes "alarm " ++ escaped a.id ++ codes " " ++ escaped a.package ++ codes " " ++ escaped a.version ++ codes " "
    ++ function_text a.function ++ line_end ++ flat_map path_line a.path

-- `PATH:LINE:COLUMN`, or the path alone where the note has no place
abbrev pub noted_at : List ℕ → Option LineColumn → List ℕ
noted_at path None = escaped path
noted_at path (Some at) = place_text path at.line at.column

-- `note PATH:LINE:COLUMN TEXT`
abbrev pub note_text : Note → List ℕ
note_text n = codes "note " ++ noted_at n.path n.place ++ codes " " ++ escaped n.text ++ line_end

-- `modules M, functions F, reachable R, edges E, alarms A, notes N`
abbrev pub counts_text : Counts → List ℕ
counts_text c =
    codes "modules " ++ decimal c.modules ++ codes ", functions " ++ decimal c.functions ++ codes ", reachable " ++ decimal c.reachable
    ++ codes ", edges " ++ decimal c.edges ++ codes ", alarms " ++ decimal c.alarms ++ codes ", notes " ++ decimal c.notes ++ line_end

-- the alarms, the notes and then the counts
abbrev pub report_of : Report → List ℕ
report_of r = flat_map alarm_text r.alarms ++ flat_map note_text r.notes ++ counts_text r.counts
