use Rattle.std.proofs.Common.{◌≡◌, ◌∙◌, ap}
use Rattle.set_pool.specs.Chains.{end_at}
use Rattle.set_pool.proofs.ChainReads.{full_at}
use Rattle.set_pool.proofs.lists.Lists.is_full.Goals as goal

pub returns : goal.returns
returns c = rw (← c.self.view_is) (full_at _ _ _ _ c.args.list c.end_in.result c.self.invariant (c.end_in.ensures ∙ ap (λ xs. end_at xs c.args.list) c.as_slice.ensures.value))
