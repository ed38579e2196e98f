use Rattle.std.proofs.Common.{get_or, [], subst}
use Rattle.std.proofs.lemmas.List.{get_or_default, take_all}
use Rattle.std.proofs.lemmas.List.Elements.{All-get_or}
use Rattle.composer.specs.declared.application.Link.{Link}
use Rattle.composer.specs.Parts.{IsNamed, lists_of}
use Rattle.composer.specs.Solved.{AddsEdges, IsAmong, IsLinkEdge}
use Rattle.composer.proofs.Members.{none}
use Rattle.composer.proofs.SolvedLemmas.{AddsEdges-none, among_more}
use Rattle.composer.proofs.edges.push_links.Goals as goal

pub loop-link-init : goal.loop-link-init
loop-link-init c = AddsEdges-none (IsAmong (IsLinkEdge (lists_of c.args.parts.now)) []) c.args.out.now.items (λ e h. none h.0 h.1)

pub push_link-requires : goal.push_link-requires
push_link-requires c =
    let d : Link = record { «module» = 0; offset = 0; target = 0 } in
    All-get_or (IsNamed (lists_of c.args.parts.now)) c.args.links.now c.loop-link.link-index d c.loop-link-test.true c.requires

pub loop-link-preserved : goal.loop-link-preserved
loop-link-preserved c =
    let links = c.args.links.now in
    let i = c.loop-link.link-index in
    let d : Link = record { «module» = 0; offset = 0; target = 0 } in
    let link = get_or links i d in
    among_more (IsLinkEdge (lists_of c.args.parts.now)) links i link c.args.out.now.items c.loop-link.out.items c.push_link.new.out.items c.loop-link-test.true (get_or_default links i link d c.loop-link-test.true) c.loop-link.invariant c.in_ok-push_link.ensures

pub returns : goal.returns
returns c = subst (λ ls. AddsEdges (IsAmong (IsLinkEdge (lists_of c.args.parts.now)) ls) c.args.out.now.items c.loop-link.out.items) (take_all c.loop-link.link-index c.args.links.now c.loop-link-test.false) c.loop-link.invariant
