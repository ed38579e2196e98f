use Rattle.reach_path.proofs.SearchLemmas.{Following}
use Rattle.reach_path.proofs.search.Search.follow.Given as goal

abbrev pub invariant-loop-next : goal.invariant-loop-next
invariant-loop-next l = Following l.graph l.i l.from l.level l.next l.self.levels.items l.self.order.items

abbrev pub decreases-loop-next : goal.decreases-loop-next
decreases-loop-next l = l.next
