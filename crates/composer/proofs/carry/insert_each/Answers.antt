use Rattle.std.proofs.Common.{◌≡◌, ◌<◌, ◌+◌, length, get_or, take, ap, sym, ◌∙◌, subst, arith}
use Rattle.std.proofs.lemmas.List.{take_all, take_more}
use Rattle.std.proofs.lemmas.List.Elements.{Contains-get_or}
use Rattle.composer.specs.Work.{Inserts}
use Rattle.composer.proofs.CarryLemmas.{Inserts-length, Inserts-none, Inserts-step}
use Rattle.composer.proofs.RowLemmas.{in_from_member}
use Rattle.composer.proofs.carry.insert_each.Goals as goal

pub loop-value-init : goal.loop-value-init
loop-value-init g c = record { inserts = Inserts-none c.args.vertex c.args.sets.now.sets; cost = omega arith }

pub insert-requires-clause-set : goal.insert-requires-clause-set
insert-requires-clause-set g c =
    let e = Inserts-length _ _ _ _ c.loop-value.invariant.inserts in
    let lt = c.requires.vertex in
    omega (arith, e, lt)

pub insert-requires-clause-value : goal.insert-requires-clause-value
insert-requires-clause-value g c =
    let values = c.args.values.now in
    let i = c.loop-value.value-index in
    c.requires.values (get_or values i 0) (in_from_member (get_or values i 0) values (Contains-get_or values i 0 c.loop-value-test.true))

pub loop-value-preserved : goal.loop-value-preserved
loop-value-preserved g c =
    let values = c.args.values.now in
    let i = c.loop-value.value-index in
    record {
      inserts = rw (take_more values i 0 c.loop-value-test.true)
          (Inserts-step (take i values) c.args.vertex (get_or values i 0) c.args.sets.now.sets c.loop-value.sets.sets c.insert.new.self.sets c.in_ok-insert.field-0 c.requires.vertex c.loop-value.invariant.inserts c.in_ok-insert.ensures.answer c.in_ok-insert.ensures.sets);
      cost = let e = c.loop-value.invariant.cost in let f = c.insert.ensures.steps in omega (arith, e, f);
    }

pub returns-clause-inserts : goal.returns-clause-inserts
returns-clause-inserts g c = subst (λ xs. Inserts xs c.args.vertex c.args.sets.now.sets c.loop-value.sets.sets) (take_all c.loop-value.value-index c.args.values.now c.loop-value-test.false) c.loop-value.invariant.inserts

pub returns-clause-steps : goal.returns-clause-steps
returns-clause-steps g c =
    let e = c.loop-value.invariant.cost in
    let f = c.loop-value-test.false in
    let far = c.loop-value.auto.value-index-end in
    omega (arith, e, f, far)
