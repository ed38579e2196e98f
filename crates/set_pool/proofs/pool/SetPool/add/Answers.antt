use Rattle.std.proofs.Common.{◌≡◌, ◌≢◌, ◌<◌, ◌%◌, false, length, sym, ◌∙◌, ap, subst, arith}
use Rattle.set_pool.specs.Sets.{Pool, is_in, set_at, with_value}
use Rattle.set_pool.proofs.PoolSteps.{noted, pool_added, table_probed, table_room}
use Rattle.set_pool.proofs.pool.SetPool.add.Goals as goal

pub push-requires-clause-list : goal.push-requires-clause-list
push-requires-clause-list c = subst (λ (v : Pool). c.args.set < length v.sets) (sym c.self.view_is) c.requires.set

pub push-requires-clause-room : goal.push-requires-clause-room
push-requires-clause-room c = subst (λ (v : Pool). length (set_at v.sets c.args.set) % 15 ≢ 0) (sym c.self.view_is) c.requires.room

pub note-requires-clause-set : goal.note-requires-clause-set
note-requires-clause-set c =
    let lt = subst (λ (v : Pool). c.args.set < length v.sets) (sym c.self.view_is) c.requires.set in
    let e = c.self.invariant.same_length in
    omega (arith, lt, e)

pub note-requires-clause-probed : goal.note-requires-clause-probed
note-requires-clause-probed c = table_probed _ _ _ (c.self.invariant.indexed c.args.set)

pub note-requires-clause-room : goal.note-requires-clause-room
note-requires-clause-room c some = table_room _ _ _ (c.self.invariant.indexed c.args.set) (omega arith) some

pub invariant_of-self : goal.invariant_of-self
invariant_of-self c =
    let s = c.args.set in
    let t = c.args.value in
    let lt = subst (λ (v : Pool). s < length v.sets) (sym c.self.view_is) c.requires.set in
    let absent = subst (λ (v : Pool). is_in t (set_at v.sets s) ≡ false) (sym c.self.view_is) c.requires.new in
    let room = subst (λ (v : Pool). length (set_at v.sets s) % 15 ≢ 0) (sym c.self.view_is) c.requires.room in
    pool_added c.self.inside.lists c.push.new.self c.self.inside.index c.note.new.self s t c.self.invariant lt c.requires.value absent room c.push.ensures.lists c.push.ensures.spare
    (noted _ s t _ _ _ (omega (arith, room)) (c.self.invariant.indexed s) c.note.ensures.skips c.note.ensures.puts)

pub returns-clause-sets : goal.returns-clause-sets
returns-clause-sets c = c.push.ensures.lists ∙ ap (λ (v : Pool). with_value v.sets c.args.set c.args.value) c.self.view_is

pub returns-clause-spare : goal.returns-clause-spare
returns-clause-spare c = c.push.ensures.spare ∙ ap (λ (v : Pool). v.spare) c.self.view_is
