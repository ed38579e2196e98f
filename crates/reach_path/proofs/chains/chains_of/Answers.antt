use Rattle.std.proofs.Common.{◌≡◌, ◌<◌, length, slice_index, ◌∙◌, ap, subst, arith}
use Rattle.std.proofs.lemmas.List.{get_or_default}
use Rattle.reach_path.specs.Graphs.{from}
use Rattle.reach_path.proofs.ChainLemmas.{AreChains-more}
use Rattle.reach_path.proofs.chains.chains_of.Goals as goal

pub loop-i-preserved : goal.loop-i-preserved
loop-i-preserved c =
    let g = c.args.graph.now in
    let heads = c.loop-i.heads.items in
    let below : c.from-from.result < length heads = omega (arith, c.from-from.ensures.below, c.loop-i.invariant.heads_length) in
    let head : c.index.result.now ≡ slice_index heads (from g c.loop-i.i)
    = c.index.ensures ∙ get_or_default heads c.from-from.result c.index.result.now 0 below ∙ ap (slice_index heads) c.from-from.ensures.is in
    rw (c.in_ok-push.ensures.items, head, c.from-from.ensures.is)
    (AreChains-more g c.loop-i.i c.loop-i.heads.items c.loop-i.nexts.items (subst (λ v. v < g.nodes) c.from-from.ensures.is c.from-from.ensures.below) c.loop-i.invariant)
