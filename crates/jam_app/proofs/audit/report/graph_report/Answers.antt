use Rattle.std.proofs.Common.{◌≡◌, ◌<◌, List, ℕ, Bool, length, map, sum, arith, ap, refl, sym, subst, ◌∙◌}
use Rattle.std.specs.Prelude.{All}
use Rattle.std.specs.List.Sorted.{IsStrictlySortedBy}
use Rattle.std.specs.Option.{is_some}
use Rattle.std.proofs.lemmas.List.{length-map}
use Rattle.jam_base.specs.Edges.{edge_order}
use Rattle.jam_base.specs.declared.edge.Edge.{Edge}
use Rattle.jam_base.specs.declared.edge.FunctionRef.{FunctionRef}
use Rattle.alarms.specs.declared.found.Found.{Found}
use Rattle.composer.specs.Parts.{lists_of}
use Rattle.composer.specs.declared.application.Part.{Part}
use Rattle.reach_path.specs.Levels.{IsBetween, IsFunction, body_of}
use Rattle.reach_path.specs.Reached.{IsReachOf, path_to}
use Rattle.jam_app.specs.Showing.{IsInLists, function_counts, shown_by}
use Rattle.jam_app.proofs.EdgeEnds.{body_there, edges_between}
use Rattle.jam_app.proofs.ReportLemmas.{few_functions, in_lists}
use Rattle.jam_app.proofs.audit.report.graph_report.Goals as goal

pub reach-requires-clause-sorted : goal.reach-requires-clause-sorted
reach-requires-clause-sorted c = subst (IsStrictlySortedBy edge_order) (sym c.edges-edges.ensures) c.requires.links.2.sorted

pub reach-requires-clause-between : goal.reach-requires-clause-between
reach-requires-clause-between c =
    let lists = lists_of c.args.parts.now in
    let functions : c.as_slice.result.now ≡ function_counts lists = c.as_slice.ensures.value ∙ c.in_ok-functions.ensures.counts in
    let all = edges_between lists c.requires.links.0 c.in_ok-functions.ensures.rules c.requires.links.1 c.args.graph.now.edges c.requires.links.2 in
    subst (λ (fs : List ℕ). All (IsBetween fs) c.edges-edges.result.now) (sym functions) (subst (All (IsBetween (function_counts lists))) (sym c.edges-edges.ensures) all)

pub reach-requires-clause-few : goal.reach-requires-clause-few
reach-requires-clause-few c =
    let functions : c.as_slice.result.now ≡ function_counts (lists_of c.args.parts.now) = c.as_slice.ensures.value ∙ c.in_ok-functions.ensures.counts in
    subst (λ (fs : List ℕ). sum fs < 4294967296) (sym functions) (few_functions c.args.parts.now c.requires.narrow)

pub reach-requires-clause-entry : goal.reach-requires-clause-entry
reach-requires-clause-entry c =
    let lists = lists_of c.args.parts.now in
    let functions : c.as_slice.result.now ≡ function_counts lists = c.as_slice.ensures.value ∙ c.in_ok-functions.ensures.counts in
    let within : c.args.entry < length lists = omega (arith, c.requires.entry, length-map c.args.parts.now (λ (p : Part). p.summary.lists)) in
    subst (λ (fs : List ℕ). IsFunction fs (body_of c.args.entry)) (sym functions) (body_there lists c.in_ok-functions.ensures.rules (body_of c.args.entry) within refl)

pub shown_alarms-requires : goal.shown_alarms-requires
shown_alarms-requires c =
    let entries = c.args.lock.now.entries in
    let advisories = c.args.advisories.now in
    let reached : FunctionRef → Bool = λ f. is_some (path_to c.in_ok-reach.reach f) in
    subst (λ (xs : List Found). All (IsInLists entries advisories) xs) (sym c.as_slice-2.ensures.value) (in_lists entries advisories c.args.parts.now reached c.in_ok-found.found.items c.in_ok-found.ensures)

pub returns : goal.returns
returns c = record {
  reach = c.in_ok-reach.reach;
  reach_is = subst (λ (es : List Edge). IsReachOf es c.args.entry c.in_ok-reach.reach) c.edges-edges.ensures c.in_ok-reach.ensures;
  found = c.in_ok-found.found.items;
  found_are = c.in_ok-found.ensures;
  alarms = c.of.ensures ∙ c.in_ok-alarms.ensures ∙ ap (map (shown_by c.args.lock.now.entries c.args.advisories.now c.args.printed.now c.in_ok-reach.reach)) c.as_slice-2.ensures.value;
  notes_are = c.of-2.ensures;
  counts = λ i. record {
    modules = length c.args.parts.now;
    functions = (c.functions.ensures ∙ c.requires.counted) i;
    reachable = c.count.ensures i;
    edges = length (c.edges-edges.ensures i);
    alarms = (c.len.ensures ∙ c.in_ok-alarms.alarms.ok.0 ∙ ap length (sym c.of.ensures)) i;
    notes = (c.len-2.ensures ∙ c.args.notes.ok.0 ∙ ap length (sym c.of-2.ensures)) i;
  };
}
