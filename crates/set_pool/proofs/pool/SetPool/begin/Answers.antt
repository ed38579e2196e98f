use Rattle.std.proofs.Common.{◌≡◌, ◌<◌, ◌≤◌, ◌+◌, ◌*◌, ◌/◌, ◌%◌, false, ◌++◌, ◌∷◌, [], length, sym, ◌∙◌, ap, subst, arith}
use Rattle.set_pool.specs.Pools.{IsIndexed}
use Rattle.set_pool.specs.Sets.{Pool, chunks_for, is_in, set_at, with_value}
use Rattle.set_pool.proofs.PoolLemmas.{room_for}
use Rattle.set_pool.proofs.PoolSteps.{noted, pool_begun, table_probed, table_room, widened_length, widened_table}
use Rattle.set_pool.proofs.pool.SetPool.begin.Goals as goal

pub widen-requires-clause-set : goal.widen-requires-clause-set
widen-requires-clause-set c =
    let lt = subst (λ (v : Pool). c.args.set < length v.sets) (sym c.self.view_is) c.requires.set in
    let e = c.self.invariant.same_length in
    omega (arith, lt, e)

pub widen-requires-clause-full : goal.widen-requires-clause-full
widen-requires-clause-full c = subst (λ (v : Pool). length (set_at v.sets c.args.set) % 15 ≡ 0) (sym c.self.view_is) c.requires.full

pub widen-requires-clause-below : goal.widen-requires-clause-below
widen-requires-clause-below c = c.self.invariant.below c.args.set

pub widen-requires-clause-indexed : goal.widen-requires-clause-indexed
widen-requires-clause-indexed c = c.self.invariant.indexed c.args.set

pub widen-requires-clause-room : goal.widen-requires-clause-room
widen-requires-clause-room c less =
    let lt = subst (λ (v : Pool). c.args.set < length v.sets) (sym c.self.view_is) c.requires.set in
    let spare = subst (λ (v : Pool). 0 < v.spare) (sym c.self.view_is) c.requires.spare in
    room_for _ _ c.args.set c.self.invariant lt spare less

pub begin-requires-clause-list : goal.begin-requires-clause-list
begin-requires-clause-list c = subst (λ (v : Pool). c.args.set < length v.sets) (sym c.self.view_is) c.requires.set

pub begin-requires-clause-full : goal.begin-requires-clause-full
begin-requires-clause-full c = subst (λ (v : Pool). length (set_at v.sets c.args.set) % 15 ≡ 0) (sym c.self.view_is) c.requires.full

pub begin-requires-clause-spare : goal.begin-requires-clause-spare
begin-requires-clause-spare c = subst (λ (v : Pool). 0 < v.spare) (sym c.self.view_is) c.requires.spare

pub note-requires-clause-set : goal.note-requires-clause-set
note-requires-clause-set c =
    let lt = subst (λ (v : Pool). c.args.set < length v.sets) (sym c.self.view_is) c.requires.set in
    let e = c.self.invariant.same_length in
    let f = widened_length _ _ _ _ c.in_ok-widen.ensures.widened in
    omega (arith, lt, e, f)

pub note-requires-clause-probed : goal.note-requires-clause-probed
note-requires-clause-probed c =
    let lt = subst (λ (v : Pool). c.args.set < length v.sets) (sym c.self.view_is) c.requires.set in
    let e = c.self.invariant.same_length in
    let w = c.in_ok-widen.ensures.widened in
    let at = widened_table _ _ _ _ (omega (arith, lt, e)) w in
    rw at (table_probed _ _ _ w.indexed)

pub note-requires-clause-room : goal.note-requires-clause-room
note-requires-clause-room c some =
    let lt = subst (λ (v : Pool). c.args.set < length v.sets) (sym c.self.view_is) c.requires.set in
    let e = c.self.invariant.same_length in
    let w = c.in_ok-widen.ensures.widened in
    let at = widened_table _ _ _ _ (omega (arith, lt, e)) w in
    let full = subst (λ (v : Pool). length (set_at v.sets c.args.set) % 15 ≡ 0) (sym c.self.view_is) c.requires.full in
    rw at (table_room _ _ _ w.indexed (omega arith) (subst (λ xs. 0 < length xs) at some))

pub invariant_of-self-2 : goal.invariant_of-self-2
invariant_of-self-2 c =
    let s = c.args.set in
    let t = c.args.value in
    let lt = subst (λ (v : Pool). s < length v.sets) (sym c.self.view_is) c.requires.set in
    let absent = subst (λ (v : Pool). is_in t (set_at v.sets s) ≡ false) (sym c.self.view_is) c.requires.new in
    let full = subst (λ (v : Pool). length (set_at v.sets s) % 15 ≡ 0) (sym c.self.view_is) c.requires.full in
    let e = c.self.invariant.same_length in
    let w = c.in_ok-widen.ensures.widened in
    let at = widened_table _ _ _ _ (omega (arith, lt, e)) w in
    pool_begun c.self.inside.lists c.begin.new.self c.self.inside.index c.widen.new.index c.note.new.self s t c.self.invariant lt c.requires.value absent full c.begin.ensures.lists c.begin.ensures.spare w
    (noted (chunks_for (length (set_at c.self.inside.lists.lists s)) + 1) s t (set_at c.self.inside.lists.lists s) c.widen.new.index c.note.new.self (omega arith)
    (subst (IsIndexed (chunks_for (length (set_at c.self.inside.lists.lists s)) + 1) (set_at c.self.inside.lists.lists s)) (sym at) w.indexed) c.note.ensures.skips c.note.ensures.puts)

pub returns-clause-sets : goal.returns-clause-sets
returns-clause-sets c = c.begin.ensures.lists ∙ ap (λ (v : Pool). with_value v.sets c.args.set c.args.value) c.self.view_is

pub returns-clause-spare : goal.returns-clause-spare
returns-clause-spare c = c.begin.ensures.spare ∙ ap (λ (v : Pool). v.spare) c.self.view_is
