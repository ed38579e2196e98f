-- The alarms that were found, as they are printed.
use Rattle.std.specs.Prelude.{◌≡◌, ◌<◌, ℕ, List, [], length, map, slice_get, unwrap_or, is_some, Option, Some, None}
use Rattle.lock_reader.specs.declared.lock.LockEntry.{LockEntry}
use Rattle.advisory_reader.specs.declared.advisory.Advisory.{Advisory}
use Rattle.reach_path.specs.Reached.{IsReachOf, Reached, count_of, path_to}
use Rattle.alarms.specs.declared.found.Found.{Found}
use Rattle.report_text.specs.declared.report.Alarm.{Alarm}
use Rattle.jam_app.specs.declared.audit.showing.Sources.{Sources}
use Rattle.jam_app.specs.Printing.{PrintedModule, edge_among, function_among}
use Rattle.jam_base.specs.declared.edge.Edge.{Edge}
use Rattle.flow_rules.specs.Constraints.{ModuleConstraints}
use Rattle.composer.specs.Graphs.{function_count}
use Rattle.composer.specs.Parts.{lists_of}
use Rattle.composer.specs.declared.application.Part.{Part}
use Rattle.alarms.specs.Alarms.{AreAlarms}
use Rattle.report_text.specs.declared.report.Note.{Note}
use Rattle.report_text.specs.declared.report.Report.{Report}

-- the advisory and the installed package are in their lists
pub record IsInLists (entries : List LockEntry) (advisories : List Advisory) (found : Found) : Type 0 where
  pub advisory : found.advisory < length advisories
  pub entry : found.entry < length entries

abbrev pub id_of : Option Advisory → List ℕ
id_of None = []
id_of (Some advisory) = advisory.id

abbrev pub package_of : Option Advisory → List ℕ
package_of None = []
package_of (Some advisory) = advisory.package

abbrev pub version_of : Option LockEntry → List ℕ
version_of None = []
version_of (Some entry) = unwrap_or entry.version []

-- an alarm, as it is printed
abbrev pub shown_by : List LockEntry → List Advisory → List PrintedModule → Reached → Found → Alarm
shown_by entries advisories printed reach found = record {
  id = id_of (slice_get advisories found.advisory);
  «package» = package_of (slice_get advisories found.advisory);
  version = version_of (slice_get entries found.entry);
  function = function_among printed found.function;
  path = map (edge_among printed) (unwrap_or (path_to reach found.function) []);
}

abbrev pub shown_found : Sources → Found → Alarm
shown_found sources found = shown_by sources.lock.now.entries sources.advisories.now sources.printed.now sources.reach.now found

-- how many functions each module has
abbrev pub function_counts : List ModuleConstraints → List ℕ
function_counts modules = map (λ (c : ModuleConstraints). length c.functions) modules

-- the report over the call graph of the parts, with these notes
pub record IsGraphReport (entries : List LockEntry) (advisories : List Advisory) (printed : List PrintedModule) (parts : List Part) (edges : List Edge) (begin : ℕ) (notes : List Note) (report : Report) : Type 0 where
  pub reach : Reached
  pub reach_is : IsReachOf edges begin reach
  pub found : List Found
  pub found_are : AreAlarms entries advisories parts (λ f. is_some (path_to reach f)) found
  pub alarms : report.alarms ≡ map (shown_by entries advisories printed reach) found
  pub notes_are : report.notes ≡ notes
  pub counts : report.counts ≡ record {
    modules = length parts;
    functions = function_count (lists_of parts);
    reachable = count_of reach;
    edges = length edges;
    alarms = length report.alarms;
    notes = length report.notes;
  }
