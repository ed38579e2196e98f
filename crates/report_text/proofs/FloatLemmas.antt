-- The JSON values of reports have no numbers but whole ones.
use Rattle.std.proofs.Common.{◌≡◌, Bool, false, ◌||◌, List, [], ◌∷◌, map, Option, Some, None, refl, ap, ◌∙◌}
use Rattle.serde_json.specs.Data.{Data}
use Rattle.serde_json.specs.View.{items_of}
use Rattle.serde_json.specs.Written.{has_float, items_have_float}
use Rattle.report_text.specs.declared.report.Alarm.{Alarm}
use Rattle.report_text.specs.declared.report.LineColumn.{LineColumn}
use Rattle.report_text.specs.declared.report.Note.{Note}
use Rattle.report_text.specs.declared.report.Report.{Report}
use Rattle.report_text.specs.declared.shown.PathStep.{PathStep}
use Rattle.report_text.specs.Json.{alarm_data, column_data, line_data, note_data, report_data, step_data}

all_whole : {X : Type 0} (f : X → Data) → ((x : X) → has_float (f x) ≡ false) → (xs : List X) → items_have_float (items_of (map f xs)) ≡ false
all_whole f whole [] = refl
all_whole f whole (x ∷ xs) = ap (λ b. b || items_have_float (items_of (map f xs))) (whole x) ∙ all_whole f whole xs

step_whole : (s : PathStep) → has_float (step_data s) ≡ false
step_whole s = refl

either : (a b : Bool) → a ≡ false → b ≡ false → (a || b) ≡ false
either a b ea eb = ap (λ x. x || b) ea ∙ eb

alarm_whole : (a : Alarm) → has_float (alarm_data a) ≡ false
alarm_whole a = either (items_have_float (items_of (map step_data a.path))) false (all_whole step_data step_whole a.path) refl

column_whole : (place : Option LineColumn) → has_float (column_data place) ≡ false
column_whole None = refl
column_whole (Some at) = refl

line_whole : (place : Option LineColumn) → has_float (line_data place) ≡ false
line_whole None = refl
line_whole (Some at) = refl

note_whole : (n : Note) → has_float (note_data n) ≡ false
note_whole n = either (has_float (column_data n.place)) (has_float (line_data n.place) || false) (column_whole n.place) (either (has_float (line_data n.place)) false (line_whole n.place) refl)

pub report_whole : (r : Report) → has_float (report_data r) ≡ false
report_whole r =
    either (items_have_float (items_of (map alarm_data r.alarms))) (items_have_float (items_of (map note_data r.notes)) || false) (all_whole alarm_data alarm_whole r.alarms)
    (either (items_have_float (items_of (map note_data r.notes))) false (all_whole note_data note_whole r.notes) refl)
