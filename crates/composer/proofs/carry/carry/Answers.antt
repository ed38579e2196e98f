use Rattle.std.proofs.Common.{◌≡◌, ◌<◌, ◌+◌, length, ap, sym, ◌∙◌, subst, arith}
use Rattle.composer.specs.Work.{Inserts, Offers}
use Rattle.composer.specs.Rows.{row}
use Rattle.composer.proofs.CarryLemmas.{Offers-queued, Offers-still}
use Rattle.composer.proofs.carry.carry.Goals as goal

pub insert_each-requires-clause-vertex : goal.insert_each-requires-clause-vertex
insert_each-requires-clause-vertex g c = rw c.reserve.ensures.sets c.requires.vertex

pub returns-then-len-before-clause-offers : goal.returns-then-len-before-clause-offers
returns-then-len-before-clause-offers g c =
    let i : Inserts c.args.values.now c.args.vertex c.args.sets.now.sets c.insert_each.new.sets.sets = subst (λ rows. Inserts c.args.values.now c.args.vertex rows c.insert_each.new.sets.sets) c.reserve.ensures.sets c.in_ok-insert_each.ensures.inserts in
    let before = c.len-before.ensures.length in
    let now = c.len.ensures.length in
    let same = c.if-len-before.true in
    let was = ap (λ rows. length (row rows c.args.vertex)) c.reserve.ensures.sets in
    Offers-still c.args.values.now c.args.vertex c.args.sets.now.sets c.insert_each.new.sets.sets c.args.pending.now.items c.requires.vertex i (omega (arith, before, now, same, was))

pub returns-clause-offers : goal.returns-clause-offers
returns-clause-offers g c =
    let i : Inserts c.args.values.now c.args.vertex c.args.sets.now.sets c.insert_each.new.sets.sets = subst (λ rows. Inserts c.args.values.now c.args.vertex rows c.insert_each.new.sets.sets) c.reserve.ensures.sets c.in_ok-insert_each.ensures.inserts in
    let before = c.len-before.ensures.length in
    let now = c.len.ensures.length in
    let grew = c.if-len-before.false in
    let was = ap (λ rows. length (row rows c.args.vertex)) c.reserve.ensures.sets in
    rw c.in_ok-push.ensures.items
    (Offers-queued c.args.values.now c.args.vertex c.args.sets.now.sets c.insert_each.new.sets.sets c.args.pending.now.items c.requires.vertex i (λ e. grew (omega (arith, before, now, e, was))))
