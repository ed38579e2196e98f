use Rattle.std.proofs.Common.{◌≡◌, ◌+◌, length, map, drop, take, refl, ap, sym, ◌∙◌, subst, arith, Some}
use Rattle.std.specs.Prelude.{flat_map, slice_get}
use Rattle.std.specs.List.{enumerate_from}
use Rattle.std.proofs.lemmas.Option.{slice_get_read}
use Rattle.composer.specs.declared.application.Part.{Part}
use Rattle.composer.specs.Application.{site_of}
use Rattle.composer.specs.Parts.{lists_of}
use Rattle.composer.specs.Solved.{AddsEdges, AreNumbered, IsEdgeAmong, IsEdgeBelow}
use Rattle.composer.proofs.LinkLemmas.{lists_at}
use Rattle.composer.proofs.SolvedLemmas.{AddsEdges-none, below_more, numbered_module}
use Rattle.composer.proofs.call_graph.push_sites.Goals as goal

pub loop-m-init : goal.loop-m-init
loop-m-init c = (AddsEdges-none (IsEdgeBelow c.args.system.now (lists_of c.args.parts.now) 0) c.args.out.now.items (λ e h. omega (arith, h.2)), c.requires)

pub push_sites_of-requires : goal.push_sites_of-requires
push_sites_of-requires c =
    let a = c.args.system.now in
    let rows = c.args.sets.now.sets in
    let m = c.loop-m.m in
    let part = c.index-parts-m.result in
    let rest = c.loop-m.rest.now in
    let sites = c.sites-sites.result.now in
    let is : sites ≡ part.summary.lists.sites = c.sites-sites.ensures ∙ ap (λ (p : Part). p.summary.lists.sites) (sym c.index-parts-m.is) in
    let split = numbered_module a rows c.args.parts.now m part rest c.loop-m-test.true (sym c.index-parts-m.is) c.loop-m.invariant.1 in
    subst (AreNumbered a rows (map (site_of m) sites)) (sym c.split_at.ensures.front) (subst (λ ss. AreNumbered a rows (map (site_of m) ss) (take (length ss) rest)) (sym is) split.1)

pub loop-m-preserved : goal.loop-m-preserved
loop-m-preserved c =
    let a = c.args.system.now in
    let rows = c.args.sets.now.sets in
    let parts = c.args.parts.now in
    let m = c.loop-m.m in
    let part = c.index-parts-m.result in
    let rest = c.loop-m.rest.now in
    let sites = c.sites-sites.result.now in
    let is : sites ≡ part.summary.lists.sites = c.sites-sites.ensures ∙ ap (λ (p : Part). p.summary.lists.sites) (sym c.index-parts-m.is) in
    let split = numbered_module a rows parts m part rest c.loop-m-test.true (sym c.index-parts-m.is) c.loop-m.invariant.1 in
    let at : slice_get (lists_of parts) m ≡ Some part.summary.lists = lists_at parts m part (slice_get_read parts (length parts) m part refl c.loop-m-test.true c.index-parts-m.is) in
    let later = flat_map (λ (i, c). map (site_of i) c.sites) (enumerate_from (m + 1) (lists_of (drop (m + 1) parts))) in (
      below_more a (lists_of parts) m part.summary.lists c.args.out.now.items c.loop-m.out.items c.push_sites_of.new.out.items at c.loop-m.invariant.0
          (subst (λ ss. AddsEdges (IsEdgeAmong a m ss) c.loop-m.out.items c.push_sites_of.new.out.items) is c.in_ok-push_sites_of.ensures),
      subst (AreNumbered a rows later) (sym c.split_at.ensures.back) (subst (λ ss. AreNumbered a rows later (drop (length ss) rest)) (sym is) split.2),
    )

pub returns : goal.returns
returns c =
    let last : c.loop-m.m ≡ length c.args.parts.now = omega (arith, c.loop-m-test.false, c.loop-m.auto.m-end) in
    subst (λ k. AddsEdges (IsEdgeBelow c.args.system.now (lists_of c.args.parts.now) k) c.args.out.now.items c.loop-m.out.items) last c.loop-m.invariant.0
