use Rattle.std.proofs.Common.{◌≡◌, ◌≤◌, ◌<◌, [], length, map, arith, ap, refl, sym, subst, ◌∙◌}
use Rattle.std.specs.Prelude.{All}
use Rattle.std.specs.List.Sorted.{IsStrictlySortedBy}
use Rattle.std.proofs.lemmas.List.{length-map}
use Rattle.std.specs.Cmp.Lexicographic.{slice_cmp}
use Rattle.std.specs.Ordering.{nat_cmp}
use Rattle.composer.specs.Edges.{IsEdgeList}
use Rattle.composer.specs.Parts.{AreByPath, AreLinks, lists_of}
use Rattle.composer.specs.Sizes.{made_size, size_limit}
use Rattle.report_text.specs.Graph.{graph_text_of}
use Rattle.jam_app.specs.declared.loading.loaded.Loaded.{Loaded}
use Rattle.jam_app.specs.Entries.{begun}
use Rattle.jam_app.specs.Loading.{IsAnalysed, loaded_size, module_of, part_of}
use Rattle.jam_app.specs.Links.{Adds, LinksBelow}
use Rattle.jam_app.specs.Printing.{edge_among, printed_of}
use Rattle.jam_app.specs.Stops.{StopsWide}
use Rattle.jam_app.proofs.Wide.{handed_wide, parts_lists, parts_paths, parts_size}
use Rattle.jam_app.proofs.WholeGraph.{graph_owed}
use Rattle.jam_app.proofs.answers.edges.printed_edges.Goals as goal

pub composed-requires-clause-paths : goal.composed-requires-clause-paths
composed-requires-clause-paths c =
    let loaded = c.args.loaded.items in
    subst AreByPath (sym (c.as_slice-3.ensures.value ∙ c.in_ok-parts.ensures)) (subst (IsStrictlySortedBy (slice_cmp nat_cmp)) (sym (parts_paths loaded)) c.requires.sorted)

pub composed-requires-clause-links : goal.composed-requires-clause-links
composed-requires-clause-links c =
    let loaded = c.args.loaded.items in
    let links = c.in_ok-links.links.items in
    let lists = map (λ (l : Loaded). l.summary.lists) loaded in
    let are : AreLinks lists links = subst (λ ls. AreLinks (map (λ (l : Loaded). l.summary.lists) ls) links) c.as_slice.ensures.value c.in_ok-links.ensures.ascend in
    subst (λ ls. AreLinks (lists_of c.as_slice-3.result.now) ls) (sym c.as_slice-4.ensures.value)
    (subst (λ ms. AreLinks ms links) (sym (ap lists_of (c.as_slice-3.ensures.value ∙ c.in_ok-parts.ensures) ∙ parts_lists loaded)) are)

pub composed-requires-clause-few : goal.composed-requires-clause-few
composed-requires-clause-few c =
    let loaded = c.args.loaded.items in
    let long : length c.as_slice-3.result.now ≡ length loaded = ap length (c.as_slice-3.ensures.value ∙ c.in_ok-parts.ensures) ∙ length-map loaded part_of in
    omega (arith, long, c.requires.few)

pub returns-in_err-graph-clause-wide : goal.returns-in_err-graph-clause-wide
returns-in_err-graph-clause-wide c =
    let loaded = c.args.loaded.items in
    let size : made_size c.as_slice-3.result.now ≡ loaded_size loaded = ap made_size (c.as_slice-3.ensures.value ∙ c.in_ok-parts.ensures) ∙ parts_size loaded c.requires.analysed in
    handed_wide (loaded_size loaded) c.in_err-graph.field-0.0 c.from_residual-in_err-graph.result c.from_residual-in_err-graph.ensures.1 (subst (λ n. StopsWide n c.in_err-graph.field-0.0) size c.in_err-graph.ensures.wide)

pub returns-clause-narrow : goal.returns-clause-narrow
returns-clause-narrow c =
    let loaded = c.args.loaded.items in
    let size : made_size c.as_slice-3.result.now ≡ loaded_size loaded = ap made_size (c.as_slice-3.ensures.value ∙ c.in_ok-parts.ensures) ∙ parts_size loaded c.requires.analysed in
    subst (λ n. n < size_limit) size c.in_ok-graph.ensures.narrow

pub returns-clause-text : goal.returns-clause-text
returns-clause-text c entry skip files path whole =
    let loaded = c.args.loaded.items in
    let links = c.in_ok-links.links.items in
    let printed = c.in_ok-printed.printed.items in
    let edges = c.in_ok-graph.graph.edges in
    graph_owed (begun entry skip) files path loaded links printed (lists_of c.as_slice-3.result.now) edges (map (edge_among printed) edges) c.in_ok-printed_graph.field-0
    (subst (λ ls. Adds (LinksBelow ls (length ls)) [] links) c.as_slice.ensures.value c.in_ok-links.ensures.links)
    (c.in_ok-printed.ensures ∙ ap (λ ls. map printed_of (map module_of ls)) c.as_slice-2.ensures.value)
    (ap lists_of (c.as_slice-3.ensures.value ∙ c.in_ok-parts.ensures) ∙ parts_lists loaded)
    (subst (λ ls. IsEdgeList (lists_of c.as_slice-3.result.now) ls edges) c.as_slice-4.ensures.value c.in_ok-graph.ensures.edges)
    refl
    (c.in_ok-printed_graph.ensures ∙ ap (λ ps. graph_text_of (map (edge_among ps) edges)) c.as_slice-5.ensures.value)
    whole
