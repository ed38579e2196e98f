use Rattle.std.proofs.Common.{◌≡◌, ◌<◌, ◌⊎◌, inl, inr, false, true, length, sym, ◌∙◌, ap, subst, arith}
use Rattle.set_pool.specs.Sets.{Pool, is_in, set_at}
use Rattle.set_pool.specs.Tables.{none}
use Rattle.set_pool.proofs.Members.{some_from, told, zero_from}
use Rattle.set_pool.proofs.PoolLemmas.{found_in, no_slots}
use Rattle.set_pool.proofs.PoolSteps.{table_probed}
use Rattle.set_pool.proofs.pool.SetPool.contains.Goals as goal

pub returns-then-is_empty : goal.returns-then-is_empty
returns-then-is_empty c =
    let s = c.args.set in
    let empty = zero_from _ _ c.is_empty.ensures c.if-is_empty.true in
    let e = ap length c.table-table.ensures in
    rw (← c.self.view_is) (c.last_has.ensures (no_slots _ _ (c.self.invariant.indexed s) (omega (arith, empty, e))))

pub returns-then-value-eq-NONE : goal.returns-then-value-eq-NONE
returns-then-value-eq-NONE c = rw (← c.self.view_is) (elim (told (is_in c.args.value (set_at c.self.inside.lists.lists c.args.set))) [
  | inl there ↦ absurd (let b = c.self.invariant.below c.args.set c.args.value there in let e = c.if-value-eq-NONE.true in omega (arith, b, e))
  | inr absent ↦ sym absent
])

pub spot_of-requires-clause-probed : goal.spot_of-requires-clause-probed
spot_of-requires-clause-probed c = rw c.table-table.ensures (table_probed _ _ _ (c.self.invariant.indexed c.args.set))

pub spot_of-requires-clause-room : goal.spot_of-requires-clause-room
spot_of-requires-clause-room c =
    let some = some_from _ _ c.is_empty.ensures c.if-is_empty.false in
    let e = ap length c.table-table.ensures in
    rw c.table-table.ensures (found_in _ _ (c.self.invariant.indexed c.args.set) (omega (arith, some, e))).room

pub returns-in-Some : goal.returns-in-Some
returns-in-Some c =
    let some = some_from _ _ c.is_empty.ensures c.if-is_empty.false in
    let e = ap length c.table-table.ensures in
    let found = found_in _ _ (c.self.invariant.indexed c.args.set) (omega (arith, some, e)) in
    rw (← c.self.view_is) (sym (sym (found.is.same c.args.value (let n = c.if-value-eq-NONE.false in omega (arith, n, c.ranges.value))) ∙ ap (is_in c.args.value) (sym c.table-table.ensures) ∙ c.in-Some.ensures.absent))

pub returns-in-None : goal.returns-in-None
returns-in-None c =
    let some = some_from _ _ c.is_empty.ensures c.if-is_empty.false in
    let e = ap length c.table-table.ensures in
    let found = found_in _ _ (c.self.invariant.indexed c.args.set) (omega (arith, some, e)) in
    rw (← c.self.view_is) (sym (sym (found.is.same c.args.value (let n = c.if-value-eq-NONE.false in omega (arith, n, c.ranges.value))) ∙ ap (is_in c.args.value) (sym c.table-table.ensures) ∙ c.in-None.ensures))
