use Rattle.std.proofs.Common.{◌≡◌, ◌≤◌, ◌+◌, ◌*◌, refl, sym, ◌∙◌, ap, subst, arith}
use Rattle.set_pool.specs.Sets.{Pool, chunks_of}
use Rattle.set_pool.proofs.PoolLemmas.{pool_kept}
use Rattle.set_pool.proofs.PoolSteps.{room_more}
use Rattle.set_pool.proofs.pool.SetPool.reserve.Goals as goal

pub invariant_of-self : goal.invariant_of-self
invariant_of-self c =
    pool_kept c.self.inside.lists c.self.inside.lists c.self.inside.index c.reserve.new.self c.self.invariant refl c.reserve.ensures.tables c.reserve.ensures.used
    (room_more c.self.inside.lists c.self.inside.lists c.self.inside.index c.reserve.new.self c.self.invariant refl refl c.reserve.ensures.kept)

pub invariant_of-self-in_err-reserve-2 : goal.invariant_of-self-in_err-reserve-2
invariant_of-self-in_err-reserve-2 c =
    pool_kept c.self.inside.lists c.reserve-2.new.self c.self.inside.index c.reserve.new.self c.self.invariant c.reserve-2.ensures.lists c.reserve.ensures.tables c.reserve.ensures.used
    (room_more c.self.inside.lists c.reserve-2.new.self c.self.inside.index c.reserve.new.self c.self.invariant c.reserve-2.ensures.lists c.in_err-reserve-2.ensures.refused c.reserve.ensures.kept)

pub invariant_of-self-2 : goal.invariant_of-self-2
invariant_of-self-2 c =
    let chunks = c.chunks.ensures.chunks in
    let lists = ap chunks_of c.reserve-2.ensures.lists in
    let spare = c.in_ok-reserve-2.ensures.spare in
    let room = c.in_ok-reserve.ensures.room in
    pool_kept c.self.inside.lists c.reserve-2.new.self c.self.inside.index c.reserve.new.self c.self.invariant c.reserve-2.ensures.lists c.reserve.ensures.tables c.reserve.ensures.used (omega (arith, chunks, lists, spare, room))
