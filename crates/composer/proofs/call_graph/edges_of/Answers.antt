use Rattle.std.proofs.Common.{◌≡◌, ◌∙◌, [], length, rules, subst, sym}
use Rattle.std.proofs.lemmas.List.{length-map}
use Rattle.std.specs.Cmp.Rules.{comparing}
use Rattle.std.proofs.lemmas.List.Filters.{dedup_is}
use Rattle.composer.specs.Application.{system_of}
use Rattle.composer.specs.Parts.{lists_of}
use Rattle.composer.specs.Solved.{AddsEdges, IsEdgeBelow}
use Rattle.composer.proofs.EdgeLemmas.{edge_list, edges_found, edges_all, same_dedup}
use Rattle.composer.proofs.call_graph.edges_of.Goals as goal

pub returns : goal.returns
returns c =
    let parts = c.args.parts.now in
    let modules = lists_of parts in
    let links = c.args.links.now in
    let xs = c.push_sites.new.out.items in
    let found = c.push_links.new.out.items in
    let none : c.new-edges.result.items ≡ [] = c.new-edges.ensures.items in
    let count : length parts ≡ length modules = sym (length-map parts _) in
    let a : AddsEdges (IsEdgeBelow c.args.system.now modules (length parts)) [] xs = subst (λ ys. AddsEdges (IsEdgeBelow c.args.system.now modules (length parts)) ys xs) none c.in_ok-push_sites.ensures in
    let b : AddsEdges (IsEdgeBelow (system_of modules links) modules (length parts)) [] xs = subst (λ s. AddsEdges (IsEdgeBelow s modules (length parts)) [] xs) c.requires.system a in
    let sites : AddsEdges (IsEdgeBelow (system_of modules links) modules (length modules)) [] xs = subst (λ n. AddsEdges (IsEdgeBelow (system_of modules links) modules n) [] xs) count b in
    edge_list modules links found c.sort.new.self.items c.dedup.new.self.items c.in_ok-sort.ensures.permutation c.in_ok-sort.ensures.sorted
    (dedup_is _ _ _ c.dedup.ensures.filtered ∙ same_dedup _ c.sort.new.self.items (λ x y. search (comparing, rules) depth 12))
    (edges_found modules links xs found sites c.in_ok-push_links.ensures) (edges_all modules links xs found sites c.in_ok-push_links.ensures)
