use Rattle.std.proofs.Common.{◌≡◌, ◌≤◌, ◌<◌, ◌+◌, ◌-◌, ◌*◌, ◌++◌, ◌∷◌, [], ℕ, List, length, get_or, set, drop, ap, sym, ◌∙◌, subst, arith}
use Rattle.std.specs.Prelude.{Contains}
use Rattle.std.specs.List.{slice_range}
use Rattle.std.proofs.lemmas.List.Elements.{Contains-push}
use Rattle.composer.specs.Rows.{is_in, row}
use Rattle.composer.specs.Work.{Keeps, Notes, Offers, first_of, left, spent}
use Rattle.composer.proofs.KeepLemmas.{Keeps-carried, count_values, next_values, target_below}
use Rattle.composer.proofs.NoteLemmas.{Notes-start}
use Rattle.composer.proofs.SpendLemmas.{spent_carried}
use Rattle.composer.proofs.StateLemmas.{carried_upto, read_at}
use Rattle.composer.proofs.worklist.advance.Goals as goal

pub index-from-requires : goal.index-from-requires
index-from-requires g c =
    let below = c.requires.rests.keeps.below c.args.vertex (Contains-push c.args.state.now.pending.items c.args.vertex) in
    let e = c.requires.rests.keeps.carried_length in
    let f = c.args.state.now.carried.ok in
    omega (arith, below, e, f)

pub values-requires-clause-order : goal.values-requires-clause-order
values-requires-clause-order g c =
    let state = c.args.state.now in
    let v = c.args.vertex in
    let below = c.requires.rests.keeps.below v (Contains-push state.pending.items v) in
    let e = c.requires.rests.keeps.carried_length in
    let from = read_at state.carried.items v c.index-from.result.now (omega (arith, below, e)) c.index-from.ensures in
    let within = c.requires.rests.keeps.within v in
    let all = c.len-to.ensures.length in
    omega (arith, from, within, all)

pub carry_to_each-requires-clause-vertices : goal.carry_to_each-requires-clause-vertices
carry_to_each-requires-clause-vertices g c w h =
    let state = c.args.state.now in
    let r = c.requires.rests in
    let below = target_below c.args.system.now (length state.outs) r.ways state.sets.sets state.outs state.carried.items (state.pending.items ++ c.args.vertex ∷ []) r.keeps c.requires.inside c.args.vertex w (subst (λ xs. Contains xs w) c.of.ensures h) in
    let e = r.keeps.rows_length in
    omega (arith, below, e)

pub carry_to_each-requires-clause-values : goal.carry_to_each-requires-clause-values
carry_to_each-requires-clause-values g c t h =
    let state = c.args.state.now in
    let r = c.requires.rests in
    let upto = carried_upto c.args.system.now (length state.outs) r.ways state.sets.sets state.outs state.carried.items (state.pending.items ++ c.args.vertex ∷ []) c.requires.inside c.requires.values r.keeps
    c.args.vertex c.index-from.result.now c.len-to.result t (ap (is_in t) (sym (c.as_slice.ensures.value ∙ c.in_ok-values.ensures)) ∙ h) in
    let few = c.requires.few in
    omega (arith, upto, few)

pub index_mut-requires : goal.index_mut-requires
index_mut-requires g c =
    let below = c.requires.rests.keeps.below c.args.vertex (Contains-push c.args.state.now.pending.items c.args.vertex) in
    let e = c.requires.rests.keeps.carried_length in
    let f = c.args.state.now.carried.ok in
    omega (arith, below, e, f)

pub note_each-requires-clause-notes : goal.note_each-requires-clause-notes
note_each-requires-clause-notes g c =
    let a = c.args.system.now in
    let state = c.args.state.now in
    let n = length state.outs in
    let rows = state.sets.sets in
    let carried = state.carried.items in
    let v = c.args.vertex in
    let to = c.len-to.result in
    let ts = c.as_slice.result.now in
    let new = c.carry_to_each.new.sets.sets in
    let later = c.carry_to_each.new.pending.items in
    let r = c.requires.rests in
    let below = r.keeps.below v (Contains-push state.pending.items v) in
    let e = r.keeps.carried_length in
    let lt : v < length carried = omega (arith, below, e) in
    let from = read_at carried v c.index-from.result.now lt c.index-from.ensures in
    let given : ts ≡ slice_range (row rows v) (get_or carried v 0) to = c.as_slice.ensures.value ∙ c.in_ok-values.ensures ∙ ap (λ x. slice_range (row rows v) x to) from in
    let o : Offers ts (row state.outs v) rows state.pending.items new later = subst (λ vs. Offers ts vs rows state.pending.items new later) c.of.ensures c.in_ok-carry_to_each.ensures.offers in
    let k : Keeps a n r.ways new state.outs (set carried v to) later = Keeps-carried a n r.ways rows new state.outs carried state.pending.items later ts v to c.requires.inside r.keeps o c.len-to.ensures.length given in
    let within = r.keeps.within v in
    let all = c.len-to.ensures.length in
    subst (λ x. Notes a n new state.outs (set carried v to) later state.natives.items v x) (sym from)
    (Notes-start a n rows new state.outs carried later state.natives.items v to r.ways r.has_ways r.natives_length k lt (omega (arith, within, all)) r.keeps.within o.extends)

pub note_each-requires-clause-next : goal.note_each-requires-clause-next
note_each-requires-clause-next g c =
    let a = c.args.system.now in
    let state = c.args.state.now in
    let n = length state.outs in
    let rows = state.sets.sets in
    let carried = state.carried.items in
    let v = c.args.vertex in
    let to = c.len-to.result in
    let ts = c.as_slice.result.now in
    let new = c.carry_to_each.new.sets.sets in
    let later = c.carry_to_each.new.pending.items in
    let r = c.requires.rests in
    let below = r.keeps.below v (Contains-push state.pending.items v) in
    let e = r.keeps.carried_length in
    let lt : v < length carried = omega (arith, below, e) in
    let from = read_at carried v c.index-from.result.now lt c.index-from.ensures in
    let given : ts ≡ slice_range (row rows v) (get_or carried v 0) to = c.as_slice.ensures.value ∙ c.in_ok-values.ensures ∙ ap (λ x. slice_range (row rows v) x to) from in
    let o : Offers ts (row state.outs v) rows state.pending.items new later = subst (λ vs. Offers ts vs rows state.pending.items new later) c.of.ensures c.in_ok-carry_to_each.ensures.offers in
    let next : ts ≡ drop (get_or carried v 0) (first_of new (set carried v to) v) = next_values a n r.ways rows new state.outs carried state.pending.items later ts v to c.requires.inside r.keeps o c.len-to.ensures.length given in
    c.as_slice-2.ensures.value ∙ sym c.as_slice.ensures.value ∙ next ∙ ap (λ x. drop x (first_of new (set carried v to) v)) (sym from)

pub returns-clause-spent : goal.returns-clause-spent
returns-clause-spent g c =
    let a = c.args.system.now in
    let state = c.args.state.now in
    let n = length state.outs in
    let rows = state.sets.sets in
    let carried = state.carried.items in
    let v = c.args.vertex in
    let to = c.len-to.result in
    let ts = c.as_slice.result.now in
    let new = c.carry_to_each.new.sets.sets in
    let later = c.carry_to_each.new.pending.items in
    let last = c.note_each.new.state in
    let r = c.requires.rests in
    let below = r.keeps.below v (Contains-push state.pending.items v) in
    let e = r.keeps.carried_length in
    let lt : v < length carried = omega (arith, below, e) in
    let from = read_at carried v c.index-from.result.now lt c.index-from.ensures in
    let given : ts ≡ slice_range (row rows v) (get_or carried v 0) to = c.as_slice.ensures.value ∙ c.in_ok-values.ensures ∙ ap (λ x. slice_range (row rows v) x to) from in
    let o : Offers ts (row state.outs v) rows state.pending.items new later = subst (λ vs. Offers ts vs rows state.pending.items new later) c.of.ensures c.in_ok-carry_to_each.ensures.offers in
    let count : length ts ≡ to - get_or carried v 0 = count_values a n r.ways rows new state.outs carried state.pending.items later ts v to c.requires.inside r.keeps o c.len-to.ensures.length given in
    let each : length ts * length c.of.result.now ≡ (to - get_or carried v 0) * length (row state.outs v) = (λ j. count j * length (c.of.ensures j)) in
    let within = r.keeps.within v in
    let all = c.len-to.ensures.length in
    let le : get_or carried v 0 ≤ to = omega (arith, within, all) in
    let here = spent_carried n carried state.outs v to below lt le in
    let steps = c.in_ok-carry_to_each.ensures.steps in
    let behind : c.note_each.new.steps + spent n (set carried v to) state.outs ≡ c.carry_to_each.new.steps + spent n (set carried v to) last.outs = c.in_ok-note_each.ensures.spent in
    let same : spent n last.carried.items last.outs ≡ spent n (set carried v to) last.outs = ap (λ cs. spent n cs last.outs) c.in_ok-note_each.ensures.same in
    omega (arith, steps, each, here, behind, same)

pub returns-clause-left : goal.returns-clause-left
returns-clause-left g c =
    let a = c.args.system.now in
    let state = c.args.state.now in
    let n = length state.outs in
    let v = c.args.vertex in
    let r = c.requires.rests in
    let some = state.pending.items ++ v ∷ [] in
    let less = c.in_ok-carry_to_each.ensures.offers.less_left n (a.native + 1)
    (λ t h. let b = carried_upto a n r.ways state.sets.sets state.outs state.carried.items some c.requires.inside c.requires.values r.keeps v c.index-from.result.now c.len-to.result t
    (ap (is_in t) (sym (c.as_slice.ensures.value ∙ c.in_ok-values.ensures)) ∙ h) in omega (arith, b))
    (λ w h. target_below a n r.ways state.sets.sets state.outs state.carried.items some r.keeps c.requires.inside v w (subst (λ xs. Contains xs w) c.of.ensures h)) in
    let behind = c.in_ok-note_each.ensures.left in
    omega (arith, less, behind)
