use Rattle.std.proofs.Common.{◌≡◌, ◌≤◌, length, sym, ap, subst, arith}
use Rattle.std.specs.List.{IsDistinct}
use Rattle.std.specs.Prelude.{nat_eq}
use Rattle.set_pool.specs.Sets.{Pool, set_at}
use Rattle.set_pool.proofs.PoolLemmas.{few_values}
use Rattle.set_pool.proofs.pool.SetPool.len.Goals as goal

pub overflow_cast-result : goal.overflow_cast-result
overflow_cast-result c =
    let few = few_values _ (c.self.invariant.distinct c.args.set) (c.self.invariant.below c.args.set) in
    let long = c.len.ensures.length in
    omega (arith, few, long)

pub returns-clause-distinct : goal.returns-clause-distinct
returns-clause-distinct c = rw (← c.self.view_is) (c.self.invariant.distinct c.args.set)
