-- The report that `audit` owes.
use Rattle.std.specs.Prelude.{◌≡◌, ℕ, Bool, true, false, List, [], ◌∷◌, length, map, slice_get, Some, if◌then◌else◌}
use Rattle.std.specs.List.{sum_by}
use Rattle.jam_base.specs.Files.{Files}
use Rattle.jam_base.specs.declared.edge.Edge.{Edge}
use Rattle.jam_base.specs.declared.edge.FunctionRef.{FunctionRef}
use Rattle.js_scopes.specs.Scopes.{functions_of}
use Rattle.js_scopes.specs.declared.function.FunctionInfo.{FunctionInfo}
use Rattle.lock_reader.specs.Owner.{IsOwner}
use Rattle.lock_reader.specs.declared.lock.LockEntry.{LockEntry}
use Rattle.advisory_reader.specs.declared.advisory.Advisory.{Advisory}
use Rattle.reach_path.specs.Levels.{IsPath}
use Rattle.reach_path.specs.Reached.{AreReachable}
use Rattle.alarms.specs.Affected.{inside, names_any}
use Rattle.alarms.specs.Alarms.{found_order}
use Rattle.alarms.specs.Versions.{concerns}
use Rattle.alarms.specs.declared.found.Found.{Found}
use Rattle.report_text.specs.Json.{report_json_of}
use Rattle.report_text.specs.Reports.{report_of}
use Rattle.report_text.specs.declared.report.Alarm.{Alarm}
use Rattle.report_text.specs.declared.report.Counts.{Counts}
use Rattle.report_text.specs.declared.report.Note.{Note}
use Rattle.report_text.specs.declared.report.Report.{Report}
use Rattle.jam_app.specs.AuditFiles.{HasAdvisories, HasLock}
use Rattle.jam_app.specs.Graphs.{IsGraph, shown_edge, shown_function}
use Rattle.jam_app.specs.Notes.{notes_owed}
use Rattle.jam_app.specs.Rounds.{LoadedModule}
use Rattle.std.specs.Prelude.{◌↔◌, Contains}
use Rattle.std.specs.List.Sorted.{IsStrictlySortedBy}
use Rattle.word_reader.specs.Requests.{Asked}

-- an alarm: the advisory speaks of the installed package (it has that package's name, and its range holds for the version), the
-- package owns the module of the function, a selector of the advisory names the function, and this is the path to it, as `shown` prints it
pub record IsAlarm (entries : List LockEntry) (advisories : List Advisory) (modules : List LoadedModule) (edges : List Edge) (begin : ℕ) (found : Found) (shown : Alarm) : Type 0 where
  pub advisory : Advisory
  pub advisory_at : slice_get advisories found.advisory ≡ Some advisory
  pub entry : LockEntry
  pub entry_at : slice_get entries found.entry ≡ Some entry
  pub in_module : LoadedModule
  pub module_at : slice_get modules found.function.module ≡ Some in_module
  pub function : FunctionInfo
  pub function_at : slice_get (functions_of in_module.tree) found.function.function ≡ Some function
  pub concerned : concerns advisory entry ≡ true
  pub owner : IsOwner entries in_module.path (Some entry)
  pub named : names_any (inside entry.location in_module.path) function.name advisory.functions ≡ true
  pub version : List ℕ
  pub version_is : entry.version ≡ Some version
  pub path : List Edge
  pub path_is : IsPath edges begin found.function path
  pub shown_is : shown ≡ record { id = advisory.id; «package» = advisory.package; version = version; function = shown_function modules found.function; path = map (shown_edge modules) path }

-- these are all alarms, each once, by their advisory, the package's location, the module's path and the function's number
pub record AreAlarms (entries : List LockEntry) (advisories : List Advisory) (modules : List LoadedModule) (edges : List Edge) (begin : ℕ) (alarms : List (Found × Alarm)) : Type 0 where
  pub sorted : IsStrictlySortedBy found_order (map (λ a. a.0) alarms)
  pub alarms_are : (x : Found) (shown : Alarm) → Contains alarms (x, shown) ↔ IsAlarm entries advisories modules edges begin x shown

-- how many functions the modules have together
abbrev pub function_total : List LoadedModule → ℕ
function_total modules = sum_by (λ (m : LoadedModule). length (functions_of m.tree)) modules

-- the report on the application of an entry over the files, by the lockfile and the advisories there
pub record IsReport (asked : Asked) (files : Files) (report : Report) : Type 0 where
  pub entries : List LockEntry
  pub lock : HasLock files entries
  pub advisories : List Advisory
  pub advisories_are : HasAdvisories files asked.operand advisories
  pub path : List ℕ
  pub modules : List LoadedModule
  pub edges : List Edge
  pub graph : IsGraph asked.entry files path modules edges
  pub begin : ℕ
  pub entry_module : LoadedModule
  pub entry_at : slice_get modules begin ≡ Some entry_module
  pub entry_path : entry_module.path ≡ path
  pub alarms : List (Found × Alarm)
  pub alarms_are : AreAlarms entries advisories modules edges begin alarms
  pub alarms_shown : report.alarms ≡ map (λ a. a.1) alarms
  pub notes : report.notes ≡ notes_owed files entries advisories modules
  pub reachable : List FunctionRef
  pub reachable_are : AreReachable edges begin reachable
  pub counts : report.counts ≡ record {
    modules = length modules;
    functions = function_total modules;
    reachable = length reachable;
    edges = length edges;
    alarms = length report.alarms;
    notes = length report.notes;
  }

-- a report in its format
abbrev pub written : Bool → Report → List ℕ
written json report = if json then report_json_of report else report_of report

-- there is an alarm
abbrev pub is_alarmed : List Alarm → Bool
is_alarmed [] = false
is_alarmed (alarm ∷ alarms) = true

-- the text that `audit` owes, and whether there is an alarm
pub record IsAuditText (asked : Asked) (files : Files) (text : List ℕ) (alarmed : Bool) : Type 0 where
  pub report : Report
  pub report_is : IsReport asked files report
  pub text_is : text ≡ written asked.json report
  pub alarmed_is : alarmed ≡ is_alarmed report.alarms
