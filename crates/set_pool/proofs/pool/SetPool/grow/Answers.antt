use Rattle.std.proofs.Common.{◌<◌, arith}
use Rattle.std.proofs.lemmas.Result.{on_ok_weaker}
use Rattle.set_pool.proofs.pool.SetPool.grow.Goals as goal

pub returns-clause-spare : goal.returns-clause-spare
returns-clause-spare c = on_ok_weaker {Q = 0 < c.reserve.new.self.spare} _ (λ h. let n = c.if-more-eq0.false in omega (arith, h, n)) c.reserve.ensures.spare
