use Rattle.std.proofs.Common.{◌≡◌, sym, ap, subst, arith}
use Rattle.set_pool.proofs.PoolLemmas.{chunks_bounded}
use Rattle.set_pool.proofs.pool.SetPool.chunks.Goals as goal

pub returns-clause-bounded : goal.returns-clause-bounded
returns-clause-bounded c =
    let is = c.chunks.ensures.chunks in
    let most = chunks_bounded c.self.inside.lists.lists in
    rw (← c.self.view_is) (omega (arith, is, most))
