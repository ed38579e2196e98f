use Rattle.std.proofs.Common.{◌≡◌, ◌≤◌, ◌<◌, ◌+◌, ◌-◌, ◌∷◌, [], ℕ, length, get_or, set, take, drop, ap, sym, ◌∙◌, subst, arith}
use Rattle.std.specs.List.{slice_range}
use Rattle.std.proofs.lemmas.List.{length-take-le}
use Rattle.composer.specs.Rows.{is_in, row}
use Rattle.composer.specs.Work.{Adds, Offers, first_of, spent}
use Rattle.composer.proofs.AddLemmas.{Adds-one, way_ends}
use Rattle.composer.proofs.SpendLemmas.{spent_way}
use Rattle.composer.proofs.StateLemmas.{carried_upto, from_first, read_at}
use Rattle.composer.proofs.worklist.add_way.Goals as goal

pub push-requires : goal.push-requires
push-requires g c = (way_ends c.args.system.now (length c.args.state.now.outs) c.args.way c.requires.inside c.requires.sound).0

pub index-count-requires : goal.index-count-requires
index-count-requires g c =
    let lt = (way_ends c.args.system.now (length c.args.state.now.outs) c.args.way c.requires.inside c.requires.sound).0 in
    let e = c.requires.keeps.1.carried_length in
    let f = c.args.state.now.carried.ok in
    omega (arith, lt, e, f)

pub values-requires-clause-within : goal.values-requires-clause-within
values-requires-clause-within g c =
    let carried = c.args.state.now.carried.items in
    let lt : c.args.way.from < length carried = let w = (way_ends c.args.system.now (length c.args.state.now.outs) c.args.way c.requires.inside c.requires.sound).0 in let l = c.requires.keeps.1.carried_length in omega (arith, w, l) in
    let is = read_at carried c.args.way.from c.index-count.result.now lt c.index-count.ensures in
    let within = c.requires.keeps.1.within c.args.way.from in
    omega (arith, is, within)

pub carry-requires-clause-vertex : goal.carry-requires-clause-vertex
carry-requires-clause-vertex g c =
    let lt = (way_ends c.args.system.now (length c.args.state.now.outs) c.args.way c.requires.inside c.requires.sound).1 in
    let e = c.requires.keeps.1.rows_length in
    omega (arith, lt, e)

pub carry-requires-clause-values : goal.carry-requires-clause-values
carry-requires-clause-values g c t h =
    let k = c.requires.keeps in
    let few = c.requires.few in
    let upto = carried_upto c.args.system.now (length c.args.state.now.outs) k.0 c.args.state.now.sets.sets c.args.state.now.outs c.args.state.now.carried.items c.args.state.now.pending.items c.requires.inside c.requires.values k.1
    c.args.way.from 0 c.index-count.result.now t (ap (is_in t) (sym (c.as_slice.ensures.value ∙ c.in_ok-values.ensures)) ∙ h) in
    omega (arith, upto, few)

pub returns-clause-adds : goal.returns-clause-adds
returns-clause-adds g c =
    let a = c.args.system.now in
    let state = c.args.state.now in
    let n = length state.outs in
    let way = c.args.way in
    let carried = state.carried.items in
    let lt : way.from < length carried = let w = (way_ends a n way c.requires.inside c.requires.sound).0 in let l = c.requires.keeps.1.carried_length in omega (arith, w, l) in
    let first : c.as_slice.result.now ≡ first_of state.sets.sets carried way.from
    = c.as_slice.ensures.value ∙ c.in_ok-values.ensures ∙ from_first state.sets.sets carried way.from c.index-count.result.now (read_at carried way.from c.index-count.result.now lt c.index-count.ensures) in
    let offers : Offers (first_of state.sets.sets carried way.from) (way.to ∷ []) state.sets.sets state.pending.items c.carry.new.sets.sets c.carry.new.pending.items
    = subst (λ ts. Offers ts (way.to ∷ []) state.sets.sets state.pending.items c.carry.new.sets.sets c.carry.new.pending.items) first c.in_ok-carry.ensures.offers in
    subst (λ after. Adds a n (way ∷ []) carried state.sets.sets state.outs state.pending.items c.carry.new.sets.sets after c.carry.new.pending.items) (sym c.in_ok-push.ensures)
    (Adds-one a n way carried state.sets.sets state.outs state.pending.items c.carry.new.sets.sets c.carry.new.pending.items c.requires.inside c.requires.values c.requires.sound c.requires.keeps.1.found offers)

pub returns-clause-spent : goal.returns-clause-spent
returns-clause-spent g c =
    let a = c.args.system.now in
    let state = c.args.state.now in
    let n = length state.outs in
    let way = c.args.way in
    let carried = state.carried.items in
    let below : way.from < n = (way_ends a n way c.requires.inside c.requires.sound).0 in
    let lt : way.from < length carried = let l = c.requires.keeps.1.carried_length in omega (arith, below, l) in
    let first : c.as_slice.result.now ≡ first_of state.sets.sets carried way.from
    = c.as_slice.ensures.value ∙ c.in_ok-values.ensures ∙ from_first state.sets.sets carried way.from c.index-count.result.now (read_at carried way.from c.index-count.result.now lt c.index-count.ensures) in
    let count = ap length first in
    let all = length-take-le (get_or carried way.from 0) (row state.sets.sets way.from) (c.requires.keeps.1.within way.from) in
    let steps = c.in_ok-carry.ensures.steps in
    let more = spent_way n carried state.outs way.from way.to below below in
    let after = ap (spent n carried) c.in_ok-push.ensures in
    omega (arith, count, all, steps, more, after)
