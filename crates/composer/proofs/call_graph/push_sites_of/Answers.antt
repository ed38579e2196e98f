use Rattle.std.proofs.Common.{◌≡◌, [], get_or, sym, subst, arith}
use Rattle.std.proofs.lemmas.List.{get_or_default, take_all}
use Rattle.js_scopes.specs.declared.site.SiteInfo.{SiteInfo}
use Rattle.composer.proofs.Members.{none}
use Rattle.composer.specs.Solved.{AddsEdges, IsEdgeAmong, IsEdgeAt}
use Rattle.composer.proofs.SolvedLemmas.{AddsEdges-none, among_more, numbered_adds, numbered_count}
use Rattle.composer.proofs.call_graph.push_sites_of.Goals as goal

pub loop-k-init : goal.loop-k-init
loop-k-init c = AddsEdges-none (IsEdgeAmong c.args.system.now c.args.m []) c.args.out.now.items (λ e h. none h.0 h.1)

pub bounds-numbers-k : goal.bounds-numbers-k
bounds-numbers-k c = omega (arith, c.loop-k-test.true, numbered_count c.args.system.now c.args.sets.now.sets c.args.m c.args.sites.now c.args.numbers.now c.requires)

pub loop-k-preserved : goal.loop-k-preserved
loop-k-preserved c =
    let a = c.args.system.now in
    let rows = c.args.sets.now.sets in
    let m = c.args.m in
    let sites = c.args.sites.now in
    let k = c.loop-k.k in
    let d : SiteInfo = record { offset = 0; part = 0; holder = 0; args = 0 } in
    let s = get_or sites k d in
    let is : get_or sites k s ≡ s = get_or_default sites k s d c.loop-k-test.true in
    let n = c.index-numbers-k.result in
    let old = c.loop-k.out.items in
    let one : AddsEdges (IsEdgeAt a m s) old c.push_site.new.out.items
    = subst (AddsEdges (IsEdgeAt a m s) old) (sym c.in_ok-push_site.ensures) (numbered_adds a rows m sites c.args.numbers.now k s n old c.requires c.loop-k-test.true is (sym c.index-numbers-k.is)) in
    among_more (IsEdgeAt a m) sites k s c.args.out.now.items old c.push_site.new.out.items c.loop-k-test.true is c.loop-k.invariant one

pub returns : goal.returns
returns c = subst (λ ss. AddsEdges (IsEdgeAmong c.args.system.now c.args.m ss) c.args.out.now.items c.loop-k.out.items) (take_all c.loop-k.k c.args.sites.now c.loop-k-test.false) c.loop-k.invariant
