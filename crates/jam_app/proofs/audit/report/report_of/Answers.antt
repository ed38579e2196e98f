use Rattle.std.proofs.Common.{◌≡◌, ◌≤◌, ◌<◌, [], List, length, map, arith, ap, refl, sym, subst, ◌∙◌}
use Rattle.std.specs.Prelude.{All}
use Rattle.std.specs.List.Sorted.{IsStrictlySortedBy}
use Rattle.std.proofs.lemmas.List.{length-map}
use Rattle.std.proofs.lemmas.Option.{slice_get_within}
use Rattle.std.specs.Cmp.Lexicographic.{slice_cmp}
use Rattle.std.specs.Ordering.{nat_cmp}
use Rattle.composer.specs.declared.application.Link.{Link}
use Rattle.composer.specs.declared.application.Part.{Part}
use Rattle.composer.specs.Edges.{IsEdgeList}
use Rattle.composer.specs.Graphs.{function_count}
use Rattle.composer.specs.Parts.{AreByPath, AreLinks, lists_of}
use Rattle.composer.specs.Sizes.{made_size, size_limit}
use Rattle.report_text.specs.declared.report.Note.{Note}
use Rattle.jam_app.specs.declared.loading.loaded.Loaded.{Loaded}
use Rattle.jam_app.specs.Links.{Adds, LinksBelow, StandsAt}
use Rattle.jam_app.specs.Loading.{loaded_size, module_of, part_of}
use Rattle.jam_app.specs.Notes.{all_notes}
use Rattle.jam_app.specs.Printing.{PrintedModule, printed_of}
use Rattle.jam_app.specs.Showing.{IsGraphReport}
use Rattle.jam_app.specs.Stops.{StopsWide}
use Rattle.jam_app.proofs.ReportLemmas.{report_is}
use Rattle.jam_app.proofs.Wide.{handed_wide, parts_lists, parts_paths, parts_size}
use Rattle.jam_app.proofs.audit.report.report_of.Goals as goal

pub notes_of-requires-clause-printed : goal.notes_of-requires-clause-printed
notes_of-requires-clause-printed c =
    c.as_slice-4.ensures.value ∙ c.in_ok-printed.ensures ∙ ap (λ ls. map printed_of (map module_of ls)) (c.as_slice-2.ensures.value ∙ sym c.as_slice-3.ensures.value)

pub composed-requires-clause-paths : goal.composed-requires-clause-paths
composed-requires-clause-paths c =
    let loaded = c.args.application.modules.items in
    subst AreByPath (sym (c.as_slice-6.ensures.value ∙ c.in_ok-parts.ensures)) (subst (IsStrictlySortedBy (slice_cmp nat_cmp)) (sym (parts_paths loaded)) c.requires.sorted)

pub composed-requires-clause-links : goal.composed-requires-clause-links
composed-requires-clause-links c =
    let loaded = c.args.application.modules.items in
    let links = c.in_ok-links.links.items in
    let lists = map (λ (l : Loaded). l.summary.lists) loaded in
    let are : AreLinks lists links = subst (λ ls. AreLinks (map (λ (l : Loaded). l.summary.lists) ls) links) c.as_slice.ensures.value c.in_ok-links.ensures.ascend in
    subst (λ ls. AreLinks (lists_of c.as_slice-6.result.now) ls) (sym c.as_slice-7.ensures.value)
    (subst (λ ms. AreLinks ms links) (sym (ap lists_of (c.as_slice-6.ensures.value ∙ c.in_ok-parts.ensures) ∙ parts_lists loaded)) are)

pub composed-requires-clause-few : goal.composed-requires-clause-few
composed-requires-clause-few c =
    let loaded = c.args.application.modules.items in
    let long : length c.as_slice-6.result.now ≡ length loaded = ap length (c.as_slice-6.ensures.value ∙ c.in_ok-parts.ensures) ∙ length-map loaded part_of in
    omega (arith, long, c.requires.few)

pub graph_report-requires-clause-links : goal.graph_report-requires-clause-links
graph_report-requires-clause-links c =
    let loaded = c.args.application.modules.items in
    let links = c.in_ok-links.links.items in
    let edges = c.in_ok-graph.graph.edges in
    let parts : c.as_slice-6.result.now ≡ c.as_slice-9.result.now = c.as_slice-6.ensures.value ∙ sym c.as_slice-9.ensures.value in
    let lists : map (λ (l : Loaded). l.summary.lists) loaded ≡ lists_of c.as_slice-9.result.now = sym (parts_lists loaded) ∙ ap lists_of (sym (c.as_slice-9.ensures.value ∙ c.in_ok-parts.ensures)) in
    let are : AreLinks (map (λ (l : Loaded). l.summary.lists) loaded) links = subst (λ ls. AreLinks (map (λ (l : Loaded). l.summary.lists) ls) links) c.as_slice.ensures.value c.in_ok-links.ensures.ascend in (
      links,
      subst (λ ms. AreLinks ms links) lists are,
      subst (λ (ps : List Part). IsEdgeList (lists_of ps) links edges) parts (subst (λ (ls : List Link). IsEdgeList (lists_of c.as_slice-6.result.now) ls edges) c.as_slice-7.ensures.value c.in_ok-graph.ensures.edges),
    )

pub graph_report-requires-clause-entry : goal.graph_report-requires-clause-entry
graph_report-requires-clause-entry c =
    let loaded = c.args.application.modules.items in
    let stands = c.place_of_loaded-entry.ensures in
    let long : length c.as_slice-9.result.now ≡ length loaded = ap length (c.as_slice-9.ensures.value ∙ c.in_ok-parts.ensures) ∙ length-map loaded part_of in
    let within = slice_get_within c.as_slice-5.result.now c.place_of_loaded-entry.result stands.one stands.here in
    omega (arith, long, within, ap length c.as_slice-5.ensures.value)

pub returns-in_err-graph-clause-wide : goal.returns-in_err-graph-clause-wide
returns-in_err-graph-clause-wide c =
    let loaded = c.args.application.modules.items in
    let size : made_size c.as_slice-6.result.now ≡ loaded_size loaded = ap made_size (c.as_slice-6.ensures.value ∙ c.in_ok-parts.ensures) ∙ parts_size loaded c.requires.analysed in
    handed_wide (loaded_size loaded) c.in_err-graph.field-0.0 c.from_residual-in_err-graph.result c.from_residual-in_err-graph.ensures.1 (subst (λ n. StopsWide n c.in_err-graph.field-0.0) size c.in_err-graph.ensures.wide)

pub returns-clause-narrow : goal.returns-clause-narrow
returns-clause-narrow c =
    let loaded = c.args.application.modules.items in
    let size : made_size c.as_slice-6.result.now ≡ loaded_size loaded = ap made_size (c.as_slice-6.ensures.value ∙ c.in_ok-parts.ensures) ∙ parts_size loaded c.requires.analysed in
    subst (λ n. n < size_limit) size c.in_ok-graph.ensures.narrow

pub returns-clause-report : goal.returns-clause-report
returns-clause-report c asked files lock advised whole =
    let loaded = c.args.application.modules.items in
    let entries = c.args.lock.now.entries in
    let advisories = c.args.advisories.now in
    let links = c.in_ok-links.links.items in
    let edges = c.in_ok-graph.graph.edges in
    let report = c.in_ok-graph_report.field-0 in
    let begin = c.place_of_loaded-entry.result in
    let printed : c.as_slice-8.result.now ≡ map printed_of (map module_of loaded) = c.as_slice-8.ensures.value ∙ c.in_ok-printed.ensures ∙ ap (λ ls. map printed_of (map module_of ls)) c.as_slice-2.ensures.value in
    let parts : c.as_slice-9.result.now ≡ map part_of loaded = c.as_slice-9.ensures.value ∙ c.in_ok-parts.ensures in
    let notes : c.in_ok-notes.notes.items ≡ all_notes entries advisories loaded = c.in_ok-notes.ensures ∙ ap (all_notes entries advisories) c.as_slice-3.ensures.value in
    let made : IsGraphReport entries advisories (map printed_of (map module_of loaded)) (map part_of loaded) edges begin (all_notes entries advisories loaded) report
    = subst (λ (ps : List PrintedModule). IsGraphReport entries advisories ps (map part_of loaded) edges begin (all_notes entries advisories loaded) report) printed
    (subst (λ (qs : List Part). IsGraphReport entries advisories c.as_slice-8.result.now qs edges begin (all_notes entries advisories loaded) report) parts
    (subst (λ (ns : List Note). IsGraphReport entries advisories c.as_slice-8.result.now c.as_slice-9.result.now edges begin ns report) notes c.in_ok-graph_report.ensures)) in
    report_is asked files entries advisories c.args.application.entry loaded links (lists_of c.as_slice-6.result.now) edges begin report lock advised whole
    (subst (λ ls. Adds (LinksBelow ls (length ls)) [] links) c.as_slice.ensures.value c.in_ok-links.ensures.links)
    (ap lists_of (c.as_slice-6.ensures.value ∙ c.in_ok-parts.ensures) ∙ parts_lists loaded)
    (subst (λ ls. IsEdgeList (lists_of c.as_slice-6.result.now) ls edges) c.as_slice-7.ensures.value c.in_ok-graph.ensures.edges)
    (subst (λ (ls : List Loaded). StandsAt ls begin c.args.application.entry) c.as_slice-5.ensures.value c.place_of_loaded-entry.ensures)
    made
