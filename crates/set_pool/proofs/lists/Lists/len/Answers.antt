use Rattle.std.proofs.Common.{◌≡◌, ◌∙◌, ap, arith}
use Rattle.set_pool.specs.Chains.{end_at}
use Rattle.set_pool.proofs.ChainReads.{length_at}
use Rattle.set_pool.proofs.lists.Lists.len.Goals as goal

pub returns-clause-length : goal.returns-clause-length
returns-clause-length c =
    let long = length_at _ _ _ _ c.args.list c.end_in-end.result c.self.invariant (c.end_in-end.ensures ∙ ap (λ xs. end_at xs c.args.list) c.as_slice.ensures.value) in
    rw (← c.self.view_is) (omega (arith, long))
