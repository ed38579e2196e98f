-- The alarms that were found are those of the report.
use Rattle.std.proofs.Common.{◌≡◌, ◌↔◌, ℕ, ◌&&◌, Bool, true, false, true≢false, List, [], ◌∷◌, map, length, Option, Some, None, refl, sym, ap, subst, ◌∙◌}
use Rattle.std.specs.Prelude.{All, Contains, slice_get, unwrap_or}
use Rattle.std.specs.List.Sorted.{IsStrictlySortedBy}
use Rattle.std.specs.Option.{is_some, option_and_then, option_map}
use Rattle.std.specs.Str.{bytes_eq}
use Rattle.std.proofs.lemmas.Option.{slice_get-map, same_Some, none-some, slice_get_within, get_or_from_slice_get}
use Rattle.jam_base.specs.declared.edge.Edge.{Edge}
use Rattle.jam_base.specs.declared.edge.FunctionRef.{FunctionRef}
use Rattle.jam_base.specs.Files.{Files}
use Rattle.js_scopes.specs.Scopes.{functions_of}
use Rattle.flow_rules.specs.Constraints.{ModuleConstraints}
use Rattle.npm_range.specs.Conditions.{Condition}
use Rattle.lock_reader.specs.Owner.{IsOwner}
use Rattle.lock_reader.specs.declared.lock.LockEntry.{LockEntry}
use Rattle.advisory_reader.specs.declared.advisory.Advisory.{Advisory}
use Rattle.composer.specs.declared.application.Part.{Part}
use Rattle.composer.proofs.Members.{from_map, into_map}
use Rattle.reach_path.specs.Levels.{IsPath}
use Rattle.reach_path.specs.Reached.{IsReachOf, Reached, path_to}
use Rattle.reach_path.proofs.PathLemmas.{one_path}
use Rattle.alarms.specs.Alarms as found_alarms
use Rattle.alarms.specs.Alarms.{found_order}
use Rattle.alarms.specs.Affected.{inside, names_any}
use Rattle.alarms.specs.Versions.{concerns, holds_for, version_in}
use Rattle.alarms.specs.declared.found.Found.{Found}
use Rattle.report_text.specs.declared.report.Alarm.{Alarm}
use Rattle.jam_app.specs.declared.loading.loaded.Loaded.{Loaded}
use Rattle.jam_app.specs.Audits.{AreAlarms, IsAlarm}
use Rattle.jam_app.specs.Graphs.{shown_edge, shown_function}
use Rattle.jam_app.specs.Loading.{IsKept, module_of, part_of}
use Rattle.jam_app.specs.Printing.{PrintedModule, edge_among, function_among, printed_of}
use Rattle.jam_app.specs.Rounds.{LoadedModule}
use Rattle.jam_app.specs.Showing.{id_of, package_of, shown_by, version_of}
use Rattle.jam_app.proofs.WholeGraph.{edges_same, function_same, kept_at, loaded_at}

-- an item behind one of a mapped list
mapped_at : {X Y : Type 0} (f : X → Y) (xs : List X) (k : ℕ) (y : Y) → slice_get (map f xs) k ≡ Some y → (x : X) × (slice_get xs k ≡ Some x) × (f x ≡ y)
mapped_at {X} f xs k y e = by (slice_get xs k) refl
  where
    by : (o : Option X) → slice_get xs k ≡ o → (x : X) × (slice_get xs k ≡ Some x) × (f x ≡ y)
    by None is = absurd (none-some y (ap (option_map f) (sym is) ∙ sym (slice_get-map f xs k) ∙ e))
    by (Some x) is = (x, is, same_Some (f x) y (ap (option_map f) (sym is) ∙ sym (slice_get-map f xs k) ∙ e))

both_true : (a b : Bool) → (a && b) ≡ true → b ≡ true
both_true true b e = e
both_true false b e = absurd (true≢false (sym e))

-- a package that an advisory speaks of has a version
version_there : (advisory : Advisory) (entry : LockEntry) → concerns advisory entry ≡ true → (version : List ℕ) × (entry.version ≡ Some version)
version_there advisory entry e = by entry.version refl (both_true (bytes_eq entry.name advisory.package) _ e)
  where
    by : (o : Option (List ℕ)) → entry.version ≡ o → holds_for advisory.range (option_and_then version_in o) ≡ true → (version : List ℕ) × (entry.version ≡ Some version)
    by None is h = absurd (true≢false (sym h))
    by (Some version) is h = (version, is)

some_path : (o : Option (List Edge)) → is_some o ≡ true → (path : List Edge) × (o ≡ Some path)
some_path None e = absurd (true≢false (sym e))
some_path (Some path) e = (path, refl)

module _ (skip : Bool) (files : Files) (loaded : List Loaded) (kept : All (IsKept skip files) loaded) (entries : List LockEntry) (advisories : List Advisory) (edges : List Edge) (begin : ℕ) (reach : Reached) (reach_is : IsReachOf edges begin reach) where
  abbrev modules : List LoadedModule
  modules = map module_of loaded

  abbrev printed : List PrintedModule
  printed = map printed_of modules

  abbrev reached : FunctionRef → Bool
  reached f = is_some (path_to reach f)

  abbrev shown : Found → Alarm
  shown x = shown_by entries advisories printed reach x

  -- how an alarm is printed
  shown_as : (x : Found) (advisory : Advisory) (entry : LockEntry) (version : List ℕ) (path : List Edge) → slice_get advisories x.advisory ≡ Some advisory → slice_get entries x.entry ≡ Some entry
      → entry.version ≡ Some version → path_to reach x.function ≡ Some path
      → shown x ≡ record { id = advisory.id; «package» = advisory.package; version = version; function = shown_function modules x.function; path = map (shown_edge modules) path }
  shown_as x advisory entry version path a e v p = λ i. record {
    id = id_of (a i);
    «package» = package_of (a i);
    version = (ap version_of e ∙ ap (λ o. unwrap_or o []) v) i;
    function = function_same modules x.function i;
    path = (ap (λ o. map (edge_among printed) (unwrap_or o [])) p ∙ edges_same modules path) i;
  }

  to_alarm : (x : Found) → found_alarms.IsAlarm entries advisories (map part_of loaded) reached x → IsAlarm entries advisories modules edges begin x (shown x)
  to_alarm x a =
      let at = mapped_at part_of loaded x.function.module a.part a.part_at in
      let l = at.0 in
      let summary = (kept_at skip files loaded x.function.module l kept at.1).summary in
      let version = version_there a.advisory a.entry a.concerned in
      let path = some_path (path_to reach x.function) a.reachable in
      record {
        advisory = a.advisory;
        advisory_at = a.advisory_at;
        entry = a.entry;
        entry_at = a.entry_at;
        in_module = module_of l;
        module_at = slice_get-map module_of loaded x.function.module ∙ ap (option_map module_of) at.1;
        function = a.function;
        function_at = ap (λ (c : ModuleConstraints). slice_get c.functions x.function.function) (sym summary.whole) ∙ ap (λ (p : Part). slice_get p.summary.lists.functions x.function.function) at.2 ∙ a.function_at;
        concerned = a.concerned;
        owner = subst (λ (p : Part). IsOwner entries p.path (Some a.entry)) (sym at.2) a.owner;
        named = ap (λ (p : Part). names_any (inside a.entry.location p.path) a.function.name a.advisory.functions) at.2 ∙ a.named;
        version = version.0;
        version_is = version.1;
        path = path.0;
        path_is = reach_is.path x.function path.0 path.1;
        shown_is = shown_as x a.advisory a.entry version.0 path.0 a.advisory_at a.entry_at version.1 path.1;
      }

  from_alarm : (x : Found) (printed_as : Alarm) → IsAlarm entries advisories modules edges begin x printed_as → found_alarms.IsAlarm entries advisories (map part_of loaded) reached x × (shown x ≡ printed_as)
  from_alarm x printed_as a =
      let at = loaded_at loaded x.function.module a.in_module a.module_at in
      let l = at.0 in
      let summary = (kept_at skip files loaded x.function.module l kept at.1).summary in
      let reachable : is_some (path_to reach x.function) ≡ true = (reach_is.has x.function).1 (length a.path, a.path_is.level) in
      let path = some_path (path_to reach x.function) reachable in
      let same : path.0 ≡ a.path = one_path edges begin x.function path.0 a.path (reach_is.path x.function path.0 path.1) a.path_is in (
        record {
          advisory = a.advisory;
          advisory_at = a.advisory_at;
          entry = a.entry;
          entry_at = a.entry_at;
          part = part_of l;
          part_at = slice_get-map part_of loaded x.function.module ∙ ap (option_map part_of) at.1;
          function = a.function;
          function_at = ap (λ (c : ModuleConstraints). slice_get c.functions x.function.function) summary.whole ∙ ap (λ (m : LoadedModule). slice_get (functions_of m.tree) x.function.function) at.2 ∙ a.function_at;
          concerned = a.concerned;
          owner = subst (λ (m : LoadedModule). IsOwner entries m.path (Some a.entry)) (sym at.2) a.owner;
          reachable = reachable;
          named = ap (λ (m : LoadedModule). names_any (inside a.entry.location m.path) a.function.name a.advisory.functions) at.2 ∙ a.named;
        },
        shown_as x a.advisory a.entry a.version a.path a.advisory_at a.entry_at a.version_is (path.1 ∙ ap Some same) ∙ sym a.shown_is,
      )

  abbrev pair : Found → Found × Alarm
  pair x = (x, shown x)

  firsts : (found : List Found) → map (λ (a : Found × Alarm). a.0) (map pair found) ≡ found
  firsts [] = refl
  firsts (x ∷ xs) = ap (λ ys. x ∷ ys) (firsts xs)

  seconds : (found : List Found) → map (λ (a : Found × Alarm). a.1) (map pair found) ≡ map shown found
  seconds [] = refl
  seconds (x ∷ xs) = ap (λ ys. shown x ∷ ys) (seconds xs)

  -- the alarms of the report, and how they are printed
  pub alarms_are : (found : List Found) → found_alarms.AreAlarms entries advisories (map part_of loaded) reached found
      → (alarms : List (Found × Alarm)) × AreAlarms entries advisories modules edges begin alarms × (map shown found ≡ map (λ (a : Found × Alarm). a.1) alarms)
  alarms_are found are = (
    map pair found,
    record {
      sorted = subst (IsStrictlySortedBy found_order) (sym (firsts found)) are.sorted;
      alarms_are = λ x printed_as. (
        λ h. (
            let from = from_map pair found (x, printed_as) h in
            let same : from.0 ≡ x = ap (λ (p : Found × Alarm). p.0) from.2 in
            let shows : shown from.0 ≡ printed_as = ap (λ (p : Found × Alarm). p.1) from.2 in
            let alarm : IsAlarm entries advisories modules edges begin from.0 (shown from.0) = to_alarm from.0 ((are.alarms_are from.0).0 from.1) in
            subst (λ (y : Found). IsAlarm entries advisories modules edges begin y printed_as) same (subst (IsAlarm entries advisories modules edges begin from.0) shows alarm)
            ),
        λ a. (let both = from_alarm x printed_as a in subst (λ (s : Alarm). Contains (map pair found) (x, s)) both.1 (into_map pair found x ((are.alarms_are x).1 both.0))),
      );
    },
    sym (seconds found),
  )
