use Rattle.set_pool.proofs.PoolLemmas.{fresh_pool}
use Rattle.set_pool.proofs.pool.SetPool.new.Goals as goal

pub invariant_of-result : goal.invariant_of-result
invariant_of-result c =
    fresh_pool c.args.sets c.in_ok-lists.lists c.in_ok-index.index c.in_ok-lists.ensures.lists c.in_ok-lists.ensures.spare c.in_ok-index.ensures.tables c.in_ok-index.ensures.used
