use Rattle.std.proofs.Common.{◌≡◌, ◌<◌, ◌+◌, ◌∷◌, [], length, get_or, take, subst, arith}
use Rattle.std.proofs.lemmas.List.{length-take-le, take_all, take_more}
use Rattle.set_pool.specs.Windows.{Puts}
use Rattle.set_pool.proofs.Members.{in_at}
use Rattle.set_pool.proofs.WindowLemmas.{puts_both, puts_length, puts_none, puts_probed, puts_room}
use Rattle.set_pool.proofs.lists.put_each.Goals as goal

pub loop-value-init : goal.loop-value-init
loop-value-init c = puts_none c.args.list c.args.index.now

pub put-requires-clause-set : goal.put-requires-clause-set
put-requires-clause-set c =
    let e = puts_length _ _ _ _ c.loop-value.invariant in
    let lt = c.requires.list in
    omega (arith, e, lt)

pub put-requires-clause-value : goal.put-requires-clause-value
put-requires-clause-value c = c.requires.below (get_or c.args.values.now c.loop-value.value-index 0) (in_at c.args.values.now c.loop-value.value-index c.loop-value-test.true)

pub put-requires-clause-probed : goal.put-requires-clause-probed
put-requires-clause-probed c = puts_probed _ _ _ _ c.requires.list c.loop-value.invariant c.requires.probed

pub put-requires-clause-room : goal.put-requires-clause-room
put-requires-clause-room c =
    let values = c.args.values.now in
    let i = c.loop-value.value-index in
    let lt = c.loop-value-test.true in
    let few = length-take-le i values (omega (arith, lt)) in
    let room = c.requires.room in
    let r = puts_room _ (take i values) 0 _ _ c.requires.list c.loop-value.invariant (omega (arith, few, room, lt)) in
    omega (arith, r)

pub loop-value-preserved : goal.loop-value-preserved
loop-value-preserved c =
    let values = c.args.values.now in
    let i = c.loop-value.value-index in
    rw (take_more values i 0 c.loop-value-test.true) (puts_both c.args.list (take i values) (get_or values i 0 ∷ []) c.args.index.now c.loop-value.index c.put.new.self c.requires.list c.loop-value.invariant c.put.ensures)

pub returns : goal.returns
returns c = subst (λ xs. Puts c.args.list xs c.args.index.now c.loop-value.index) (take_all c.loop-value.value-index c.args.values.now c.loop-value-test.false) c.loop-value.invariant
