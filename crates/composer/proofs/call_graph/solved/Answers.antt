use Rattle.composer.specs.Numbers.{value_at, vertex_at}
use Rattle.std.proofs.Common.{length}
use Rattle.composer.proofs.SolvedLemmas.{are_solved}
use Rattle.composer.proofs.WorkBound.{within_uses}
use Rattle.composer.proofs.call_graph.solved.Goals as goal

pub returns-clause-solved : goal.returns-clause-solved
returns-clause-solved g c = are_solved c.args.system.now c.args.vertices.now c.in_ok-numbers.numbers c.in_ok-sets.sets.sets c.count.ensures.vertices.sorted c.requires.values c.in_ok-numbers.ensures.names c.in_ok-numbers.ensures.below c.in_ok-numbers.ensures.values c.in_ok-sets.ensures.solution

pub returns-clause-work : goal.returns-clause-work
returns-clause-work g c has tells =
    within_uses (vertex_at c.args.vertices.now) (value_at c.args.system.now) (length c.args.vertices.now) c.args.system.now c.in_ok-numbers.numbers c.in_ok-sets.sets.sets c.in_ok-numbers.ensures.names c.in_ok-numbers.ensures.below c.in_ok-numbers.ensures.values c.in_ok-sets.ensures.solution
    c.in_ok-sets.ensures.distinct has tells c.args.steps.now c.solve.new.steps c.in_ok-sets.ensures.work
