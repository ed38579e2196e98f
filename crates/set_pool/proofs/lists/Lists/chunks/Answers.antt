use Rattle.std.proofs.Common.{◌≡◌, ◌∙◌, ap, arith}
use Rattle.set_pool.proofs.ChainLemmas.{chunks_are}
use Rattle.set_pool.proofs.lists.Lists.chunks.Goals as goal

pub returns-clause-chunks : goal.returns-clause-chunks
returns-clause-chunks c =
    let are = chunks_are _ _ _ _ c.self.invariant in
    let long = c.len.ensures in
    let ok = c.self.inside.chunks.ok in
    rw (← c.self.view_is) (omega (arith, are, long, ok))
