use Rattle.std.proofs.Common.{◌≡◌, ◌+◌, ◌-◌, ◌<◌, length, slice_index, sym, ◌∙◌, subst, arith}
use Rattle.std.proofs.lemmas.List.{get_or_default}
use Rattle.reach_path.specs.Graphs.{from}
use Rattle.reach_path.specs.Chains.{IsLastFrom}
use Rattle.reach_path.specs.Search.{Offered}
use Rattle.reach_path.proofs.SearchLemmas.{Following, Following-more, room}
use Rattle.reach_path.proofs.search.Search.follow.Goals as goal

pub offer-requires-clause-room : goal.offer-requires-clause-room
offer-requires-clause-room c none =
    let h = c.loop-next.invariant in
    let there = room c.args.graph.now c.args.i c.loop-next.self.levels.items c.loop-next.self.order.items c.to.result c.index-from.result.now h.search c.to.ensures.below none in
    omega (arith, h.level_is, there)

pub loop-next-preserved : goal.loop-next-preserved
loop-next-preserved c =
    let g = c.args.graph.now in
    let h = c.loop-next.invariant in
    let m = c.loop-next.next - 1 in
    let next : c.loop-next.next ≡ m + 1 = omega (arith, c.loop-next-test.true) in
    let lt : m < length g.edges = omega (arith, h.within, next) in
    let offered = subst (λ v. Offered v (c.index-level.result.now + 1) c.loop-next.self.levels.items c.loop-next.self.order.items c.offer.new.self.levels.items c.offer.new.self.order.items) c.to.ensures.is c.in_ok-offer.ensures in
    let nexts = c.args.chains.now.nexts.items in
    let is : c.index-next-in-loop-next.result.now ≡ slice_index nexts m = c.index-next-in-loop-next.ensures ∙ get_or_default nexts m c.index-next-in-loop-next.result.now 0 (omega (arith, lt, c.requires.chains.nexts_length)) in
    let last : IsLastFrom g (from g m) m c.index-next-in-loop-next.result.now = subst (IsLastFrom g (from g m) m) (sym is) (c.requires.chains.nexts_are m lt) in
    Following-more g c.args.i c.index-from.result.now c.index-level.result.now m c.index-next-in-loop-next.result.now c.loop-next.self.levels.items c.loop-next.self.order.items c.offer.new.self.levels.items c.offer.new.self.order.items
    lt (subst (λ v. v < g.nodes) c.to.ensures.is c.to.ensures.below)
    (subst (λ n. Following g c.args.i c.index-from.result.now c.index-level.result.now n c.loop-next.self.levels.items c.loop-next.self.order.items) next h) offered last
