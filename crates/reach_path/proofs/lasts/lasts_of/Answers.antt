use Rattle.std.proofs.Common.{◌≡◌, ◌+◌, ◌-◌, sym, subst, arith}
use Rattle.reach_path.specs.Lasts.{AreLasts}
use Rattle.reach_path.proofs.LastLemmas.{AreLasts-kept}
use Rattle.reach_path.proofs.lasts.lasts_of.Goals as goal

pub loop-left-preserved : goal.loop-left-preserved
loop-left-preserved c =
    let g = c.args.graph.now in
    let levels = c.args.levels.now in
    let k = c.loop-left.left - 1 in
    let next : c.loop-left.left ≡ k + 1 = omega (arith, c.loop-left-test.true) in
    let before = subst (λ n. AreLasts g levels n c.loop-left.lasts.items) next c.loop-left.invariant.lasts in
    record {
      within = omega (arith, c.loop-left.invariant.within);
      lasts = subst (AreLasts g levels k) (sym c.keep.ensures.kept) (AreLasts-kept g levels k c.loop-left.lasts.items (omega (arith, next, c.loop-left.invariant.within)) c.keep.ensures.to_below c.keep.ensures.from_below before);
    }

pub returns : goal.returns
returns c = subst (λ n. AreLasts c.args.graph.now c.args.levels.now n c.loop-left.lasts.items) (omega (arith, c.loop-left-test.false)) c.loop-left.invariant.lasts
