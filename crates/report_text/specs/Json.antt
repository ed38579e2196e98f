-- The reports as JSON (RFC 8259): the values of which the texts are printed, each member of an object in the order of the keys' bytes.
use Rattle.std.specs.Prelude.{ℕ, List, [], ◌∷◌, ◌++◌, codes, map, Option, Some, None}
use Rattle.serde_json.specs.Data.{Data, null, number, unsigned, string, array, object, member, no_members}
use Rattle.serde_json.specs.View.{items_of}
use Rattle.serde_json.specs.Written.{compact_text}
use Rattle.report_text.specs.declared.report.Alarm.{Alarm}
use Rattle.report_text.specs.declared.report.Counts.{Counts}
use Rattle.report_text.specs.declared.report.LineColumn.{LineColumn}
use Rattle.report_text.specs.declared.report.Note.{Note}
use Rattle.report_text.specs.declared.report.Report.{Report}
use Rattle.report_text.specs.declared.shown.PathStep.{PathStep}
use Rattle.report_text.specs.declared.shown.Shown.{Shown}

abbrev pub function_data : Shown → Data
function_data f = object
    (member (codes "column") (number (unsigned f.column))
    (member (codes "line") (number (unsigned f.line))
    (member (codes "name") (string f.name)
    (member (codes "path") (string f.path) no_members))))

abbrev pub step_data : PathStep → Data
step_data s = object
    (member (codes "callee") (function_data s.callee)
    (member (codes "column") (number (unsigned s.column))
    (member (codes "line") (number (unsigned s.line))
    (member (codes "path") (string s.path) no_members))))

abbrev pub alarm_data : Alarm → Data
alarm_data a = object
    (member (codes "function") (function_data a.function)
    (member (codes "id") (string a.id)
    (member (codes "package") (string a.package)
    (member (codes "path") (array (items_of (map step_data a.path)))
    (member (codes "version") (string a.version) no_members)))))

-- the column and the line, null where the note has no place
abbrev pub column_data : Option LineColumn → Data
column_data None = null
column_data (Some at) = number (unsigned at.column)

abbrev pub line_data : Option LineColumn → Data
line_data None = null
line_data (Some at) = number (unsigned at.line)

abbrev pub note_data : Note → Data
note_data n = object
    (member (codes "column") (column_data n.place)
    (member (codes "line") (line_data n.place)
    (member (codes "path") (string n.path)
    (member (codes "text") (string n.text) no_members))))

abbrev pub counts_data : Counts → Data
counts_data c = object
    (member (codes "alarms") (number (unsigned c.alarms))
    (member (codes "edges") (number (unsigned c.edges))
    (member (codes "functions") (number (unsigned c.functions))
    (member (codes "modules") (number (unsigned c.modules))
    (member (codes "notes") (number (unsigned c.notes))
    (member (codes "reachable") (number (unsigned c.reachable)) no_members))))))

abbrev pub report_data : Report → Data
report_data r = object
    (member (codes "alarms") (array (items_of (map alarm_data r.alarms)))
    (member (codes "notes") (array (items_of (map note_data r.notes)))
    (member (codes "summary") (counts_data r.counts) no_members)))

-- the value without spaces, and a line feed
abbrev pub report_json_of : Report → List ℕ
report_json_of r = compact_text (report_data r) ++ 10 ∷ []
