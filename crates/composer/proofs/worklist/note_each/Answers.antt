use Rattle.std.proofs.Common.{◌≡◌, ◌≤◌, ◌<◌, ◌+◌, ◌++◌, ◌∷◌, [], ℕ, List, length, get_or, drop, take, ap, sym, ◌∙◌, subst, arith}
use Rattle.composer.specs.Rows.{row}
use Rattle.composer.specs.Work.{Notes, Rests, first_of, left, spent}
use Rattle.composer.proofs.KeepLemmas.{first_stay}
use Rattle.composer.proofs.NoteLemmas.{Notes-end}
use Rattle.composer.proofs.StateLemmas.{few_held, next_is, next_less, next_rest, none_next}
use Rattle.composer.proofs.worklist.note_each.Goals as goal

pub note-requires-clause-next : goal.note-requires-clause-next
note-requires-clause-next g c =
    let state = c.loop-value.state in
    let u = c.loop-value.noted.vertex in
    next_is c.loop-value.value-index c.loop-value.noted.count (get_or state.carried.items u 0) c.args.values.now (row state.sets.sets u) c.loop-value.invariant.next c.loop-value-test.true

pub overflow_add-noted : goal.overflow_add-noted
overflow_add-noted g c =
    let a = c.args.system.now in
    let n = length c.args.state.now.outs in
    let state = c.loop-value.state in
    let u = c.loop-value.noted.vertex in
    let i = c.loop-value.noted.count in
    let inv = c.loop-value.invariant in
    let less = next_less c.loop-value.value-index i (get_or state.carried.items u 0) c.args.values.now (row state.sets.sets u) inv.next c.loop-value-test.true in
    let within = inv.notes.keeps.within u in
    let held = few_held a n inv.notes.ways state.sets.sets state.outs state.carried.items state.pending.items c.requires.inside c.requires.values inv.notes.keeps u in
    let few = c.requires.few in
    omega (arith, less, within, held, few)

pub loop-value-preserved : goal.loop-value-preserved
loop-value-preserved g c =
    let a = c.args.system.now in
    let first = c.args.state.now in
    let n = length first.outs in
    let state = c.loop-value.state in
    let new = c.note.new.state in
    let u = c.loop-value.noted.vertex in
    let i = c.loop-value.noted.count in
    let inv = c.loop-value.invariant in
    let m = get_or state.carried.items u 0 in
    let carried = first.carried.items in
    let more : c.note.new.steps + spent n state.carried.items state.outs ≡ c.loop-value.steps + spent n state.carried.items new.outs
    = subst (λ k. c.note.new.steps + spent k state.carried.items state.outs ≡ c.loop-value.steps + spent k state.carried.items new.outs) inv.same_length c.in_ok-note.ensures.spent in
    let most : c.note.new.steps + spent n carried state.outs ≡ c.loop-value.steps + spent n carried new.outs
    = subst (λ cs. c.note.new.steps + spent n cs state.outs ≡ c.loop-value.steps + spent n cs new.outs) inv.same more in
    let less : left n (a.native + 1) new.sets.sets new.pending.items ≤ left n (a.native + 1) state.sets.sets state.pending.items
    = subst (λ k. left k (a.native + 1) new.sets.sets new.pending.items ≤ left k (a.native + 1) state.sets.sets state.pending.items) inv.same_length c.in_ok-note.ensures.left in
    let stay : first_of new.sets.sets new.carried.items u ≡ first_of state.sets.sets state.carried.items u
    = ap (λ cs. first_of new.sets.sets cs u) c.in_ok-note.ensures.same ∙ first_stay state.sets.sets new.sets.sets u m (inv.notes.keeps.within u) (c.in_ok-note.ensures.extends u) in
    record {
      vertex_is = inv.vertex_is;
      count_is = let e = inv.count_is in omega (arith, e);
      same_length = c.in_ok-note.ensures.same_length ∙ inv.same_length;
      same = c.in_ok-note.ensures.same ∙ inv.same;
      notes = subst (λ k. Notes a k new.sets.sets new.outs new.carried.items new.pending.items new.natives.items u (i + 1)) inv.same_length c.in_ok-note.ensures.notes;
      next = next_rest c.loop-value.value-index i m c.args.values.now (row state.sets.sets u) inv.next ∙ ap (drop (i + 1)) (sym stay);
      cost = let e = inv.cost in omega (arith, e, most);
      less = let e = inv.less in omega (arith, e, less);
    }

pub returns-clause-rests : goal.returns-clause-rests
returns-clause-rests g c =
    let state = c.loop-value.state in
    let u = c.loop-value.noted.vertex in
    let inv = c.loop-value.invariant in
    let le = none_next c.loop-value.value-index c.loop-value.noted.count (get_or state.carried.items u 0) c.args.values.now (row state.sets.sets u) inv.next c.loop-value-test.false (inv.notes.keeps.within u) in
    Notes-end c.args.system.now (length c.args.state.now.outs) state.sets.sets state.outs state.carried.items state.pending.items state.natives.items u c.loop-value.noted.count le inv.notes
