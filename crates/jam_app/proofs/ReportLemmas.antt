-- The report that is made is the one that is owed.
use Rattle.std.proofs.Common.{◌≡◌, ℕ, ◌+◌, ◌<◌, ◌≤◌, Bool, List, [], ◌∷◌, map, length, sum, arith, Option, Some, None, refl, sym, ap, subst, ◌∙◌, sum_by}
use Rattle.std.specs.Prelude.{All, Contains, slice_get}
use Rattle.std.specs.Option.{option_map}
use Rattle.std.proofs.lemmas.List.{length-map}
use Rattle.std.proofs.lemmas.List.Elements.{All-contains_itself, All-weaker}
use Rattle.std.proofs.lemmas.List.Sums.{sum_by-cons, sum-map}
use Rattle.std.proofs.lemmas.Option.{slice_get-map, slice_get_within}
use Rattle.jam_base.specs.Files.{Files}
use Rattle.jam_base.specs.declared.edge.Edge.{Edge}
use Rattle.jam_base.specs.declared.edge.FunctionRef.{FunctionRef}
use Rattle.js_scopes.specs.declared.function.FunctionInfo.{FunctionInfo}
use Rattle.js_scopes.specs.Scopes.{functions_of}
use Rattle.flow_rules.specs.Constraints.{ModuleConstraints}
use Rattle.flow_rules.specs.Flows.{constraints_of}
use Rattle.jam_app.specs.Graphs.{constraints_all}
use Rattle.composer.specs.Edges.{IsEdgeList}
use Rattle.composer.specs.Graphs.{function_count}
use Rattle.composer.specs.Parts.{lists_of}
use Rattle.composer.specs.Sizes.{function_size, made_size, module_size, size_limit}
use Rattle.composer.specs.declared.application.Link.{Link}
use Rattle.composer.specs.declared.application.Part.{Part}
use Rattle.lock_reader.specs.declared.lock.LockEntry.{LockEntry}
use Rattle.advisory_reader.specs.declared.advisory.Advisory.{Advisory}
use Rattle.alarms.specs.Alarms.{AreAlarms}
use Rattle.alarms.specs.declared.found.Found.{Found}
use Rattle.report_text.specs.declared.report.Counts.{Counts}
use Rattle.report_text.specs.declared.report.Note.{Note}
use Rattle.report_text.specs.declared.report.Report.{Report}
use Rattle.jam_app.specs.declared.loading.loaded.Loaded.{Loaded}
use Rattle.jam_app.specs.AuditFiles.{HasAdvisories, HasLock}
use Rattle.jam_app.specs.Audits.{IsReport, function_total}
use Rattle.jam_app.specs.Entries.{begun}
use Rattle.jam_app.specs.Links.{Adds, LinksBelow, StandsAt}
use Rattle.jam_app.specs.Loading.{IsKept, IsWhole, module_of, part_of}
use Rattle.jam_app.specs.Notes.{all_notes}
use Rattle.jam_app.specs.Printing.{PrintedModule, printed_of}
use Rattle.word_reader.specs.Requests.{Asked}
use Rattle.jam_app.specs.Rounds.{LoadedModule}
use Rattle.jam_app.specs.Showing.{IsGraphReport, IsInLists, function_counts, shown_by}
use Rattle.jam_app.proofs.AlarmLemmas.{alarms_are}
use Rattle.jam_app.proofs.NoteLemmas.{notes_same}
use Rattle.jam_app.proofs.Wide.{parts_lists}
use Rattle.jam_app.proofs.WholeGraph.{constraints_same, graph_is}

-- alarms that were found name items of their lists
pub in_lists : (entries : List LockEntry) (advisories : List Advisory) (parts : List Part) (reached : FunctionRef → Bool) (found : List Found) → AreAlarms entries advisories parts reached found
    → All (IsInLists entries advisories) found
in_lists entries advisories parts reached found are =
    All-weaker (Contains found) (IsInLists entries advisories)
    (λ x h. let a = (are.alarms_are x).0 h in record { advisory = slice_get_within advisories x.advisory a.advisory a.advisory_at; entry = slice_get_within entries x.entry a.entry a.entry_at }) found (All-contains_itself found)

-- functions are no more than the size of their parts
functions_size : (fs : List FunctionInfo) → length fs ≤ sum_by function_size fs
functions_size [] = omega arith
functions_size (f ∷ fs) = omega (arith, functions_size fs, sum_by-cons function_size f fs)

pub few_functions : (parts : List Part) → made_size parts < size_limit → sum (function_counts (lists_of parts)) < 4294967296
few_functions parts narrow = omega (arith, narrow, sum-map count (lists_of parts), by parts)
  where
    count : ModuleConstraints → ℕ
    count c = length c.functions

    made : Part → ℕ
    made p = module_size p.summary.made p.summary.lists

    by : (ps : List Part) → sum_by count (lists_of ps) ≤ sum_by made ps
    by [] = omega arith
    by (p ∷ ps) = omega (arith, by ps, sum_by-cons count p.summary.lists (lists_of ps), sum_by-cons made p ps, functions_size p.summary.lists.functions)

-- how many functions there are, by the parts and by the trees
totals : (skip : Bool) (files : Files) (loaded : List Loaded) → All (IsKept skip files) loaded → function_count (lists_of (map part_of loaded)) ≡ function_total (map module_of loaded)
totals skip files loaded kept = ap function_count (parts_lists loaded ∙ constraints_same skip files loaded kept) ∙ by (map module_of loaded)
  where
    count : ModuleConstraints → ℕ
    count c = length c.functions

    total : LoadedModule → ℕ
    total m = length (functions_of m.tree)

    by : (ms : List LoadedModule) → function_count (constraints_all ms) ≡ function_total ms
    by [] = refl
    by (m ∷ ms) = sum_by-cons count (constraints_of m.tree) (constraints_all ms) ∙ ap (λ n. total m + n) (by ms) ∙ sym (sum_by-cons total m ms)

pub report_is : (asked : Asked) (files : Files) (entries : List LockEntry) (advisories : List Advisory) (path : List ℕ) (loaded : List Loaded) (links : List Link) (constraints : List ModuleConstraints) (edges : List Edge) (begin : ℕ) (report : Report)
    → HasLock files entries → HasAdvisories files asked.operand advisories → IsWhole (begun asked.entry asked.skip_refused) files path loaded
    → Adds (LinksBelow loaded (length loaded)) [] links → constraints ≡ map (λ (l : Loaded). l.summary.lists) loaded → IsEdgeList constraints links edges
    → StandsAt loaded begin path
    → IsGraphReport entries advisories (map printed_of (map module_of loaded)) (map part_of loaded) edges begin (all_notes entries advisories loaded) report
    → IsReport asked files report
report_is asked files entries advisories path loaded links constraints edges begin report lock advised whole adds is_said are_edges entry made =
    let skip = asked.skip_refused in
    let alarms = alarms_are skip files loaded whole.kept entries advisories edges begin made.reach made.reach_is made.found made.found_are in
    let reachable = made.reach_is.count in
    record {
      entries = entries;
      lock = lock;
      advisories = advisories;
      advisories_are = advised;
      path = path;
      modules = map module_of loaded;
      edges = edges;
      graph = graph_is (begun asked.entry skip) files path loaded links constraints edges adds is_said are_edges whole;
      begin = begin;
      entry_module = module_of entry.one;
      entry_at = slice_get-map module_of loaded begin ∙ ap (option_map module_of) entry.here;
      entry_path = entry.path_is;
      alarms = alarms.0;
      alarms_are = alarms.1;
      alarms_shown = made.alarms ∙ alarms.2;
      notes = made.notes_are ∙ notes_same skip files entries advisories loaded whole.kept;
      reachable = reachable.0;
      reachable_are = reachable.1;
      counts = made.counts ∙ (λ i. record {
        modules = (length-map loaded part_of ∙ sym (length-map loaded module_of)) i;
        functions = totals skip files loaded whole.kept i;
        reachable = reachable.2 i;
        edges = length edges;
        alarms = length report.alarms;
        notes = length report.notes;
      });
    }
