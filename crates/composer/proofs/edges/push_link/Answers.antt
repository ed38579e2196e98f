use Rattle.std.proofs.Common.{◌≡◌, ◌<◌, ◌++◌, ◌∷◌, [], length, Some, refl, sym, ap, subst, ◌∙◌, arith}
use Rattle.std.specs.Prelude.{Contains, slice_get}
use Rattle.std.proofs.lemmas.List.{length-map}
use Rattle.std.proofs.lemmas.Option.{slice_get_read, slice_get_within, same_Some}
use Rattle.flow_rules.specs.Constraints.{ModuleConstraints}
use Rattle.composer.specs.declared.application.Part.{Part}
use Rattle.composer.specs.CallEdges.{link_edge}
use Rattle.composer.specs.Parts.{lists_of}
use Rattle.composer.specs.Solved.{AddsEdges, IsLinkEdge}
use Rattle.composer.proofs.LinkLemmas.{link_adds, lists_at}
use Rattle.composer.proofs.edges.push_link.Goals as goal

pub returns : goal.returns
returns c =
    let parts = c.args.parts.now in
    let modules = lists_of parts in
    let link = c.args.link.now in
    let part = c.index-parts-link.result in
    let named = c.requires in
    let within : link.module < length parts = omega (arith, slice_get_within modules link.module named.constraints named.here, length-map parts (λ (p : Part). p.summary.lists)) in
    let at : slice_get modules link.module ≡ Some part.summary.lists = lists_at parts link.module part (slice_get_read parts (length parts) link.module part refl within c.index-parts-link.is) in
    let lists : part.summary.lists ≡ named.constraints = same_Some part.summary.lists named.constraints (sym at ∙ named.here) in
    let requires_ : c.requires_-requires_.result.now ≡ named.constraints.requires_ =
    c.requires_-requires_.ensures.requires_ ∙ ap (λ (p : Part). p.summary.lists.requires_) (sym c.index-parts-link.is) ∙ ap (λ (d : ModuleConstraints). d.requires_) lists in
    let pushed : c.push.new.self.items ≡ c.args.out.now.items ++ link_edge link c.holder_at-holder.result ∷ [] = c.in_ok-push.ensures.items ∙ ap (λ e. c.args.out.now.items ++ e ∷ []) c.link_edge.ensures in
    subst (AddsEdges (IsLinkEdge modules link) c.args.out.now.items) (sym pushed)
    (link_adds modules link named.constraints c.holder_at-holder.result named.require c.args.out.now.items named.here named.stands named.offset
    (λ s stands offset. c.holder_at-holder.ensures s (subst (λ xs. Contains xs s) (sym requires_) stands) offset))
