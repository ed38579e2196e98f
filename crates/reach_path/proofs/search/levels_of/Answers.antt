use Rattle.std.proofs.Common.{arith}
use Rattle.reach_path.proofs.SearchLemmas.{AreLevels-end}
use Rattle.reach_path.proofs.search.levels_of.Goals as goal

pub returns : goal.returns
returns c = AreLevels-end c.args.graph.now c.loop-i.i c.loop-i.search.levels.items c.loop-i.search.order.items c.loop-i.invariant (omega (arith, c.loop-i-test.false, c.len.ensures, c.loop-i.search.order.ok.0))
