use Rattle.std.proofs.Common.{◌≡◌, ◌+◌, ◌≤◌, map, sym, ◌∙◌, ap, subst, arith}
use Rattle.set_pool.specs.Chains.{Lists, list_in}
use Rattle.set_pool.specs.Sets.{chunks_of}
use Rattle.set_pool.proofs.ChainLemmas.{chained_with, chunks_are}
use Rattle.set_pool.proofs.lists.Lists.reserve.Goals as goal

pub invariant_of-self : goal.invariant_of-self
invariant_of-self c =
    let room = c.self.invariant.room in
    let wider = c.reserve.ensures.capacity in
    rw c.reserve.ensures.items (chained_with _ _ _ _ _ _ c.self.invariant (omega (arith, room, wider)) c.self.invariant.few)

pub invariant_of-self-2 : goal.invariant_of-self-2
invariant_of-self-2 c =
    let chunks = c.self.inside.chunks.items in
    let ends = c.self.inside.ends.items in
    let are = chunks_are _ _ _ _ c.self.invariant in
    let few : chunks_of (map (list_in chunks) ends) + c.args.chunks ≤ 4294967295 = subst (λ (v : Lists). chunks_of v.lists + c.args.chunks ≤ 4294967295) (sym c.self.view_is) c.requires in
    let len = c.reserve.ensures.len in
    let room = c.in_ok-reserve.ensures.ok in
    let ok = c.self.inside.chunks.ok in
    rw c.reserve.ensures.items (chained_with _ _ _ _ _ _ c.self.invariant (omega (arith, len, room, ok)) (omega (arith, are, few)))
