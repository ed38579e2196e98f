use Rattle.std.proofs.Common.{◌≡◌, ◌≤◌, ◌<◌, ◌+◌, ◌++◌, ◌∷◌, [], ℕ, List, length, get_or, ap, sym, ◌∙◌, subst, arith}
use Rattle.std.specs.Prelude.{Contains}
use Rattle.composer.specs.declared.system.Arrow.{Arrow}
use Rattle.composer.specs.Solution.{InSolution, Reason}
use Rattle.composer.specs.Work.{Keeps, Notes, callee_ways, input_ways_of, noted_of}
use Rattle.composer.proofs.NoteLemmas.{Notes-more, found_sound}
use Rattle.composer.proofs.worklist.note.Goals as goal

pub add_ways-requires-clause-sound : goal.add_ways-requires-clause-sound
add_ways-requires-clause-sound g c =
    let a = c.args.system.now in
    let state = c.args.state.now in
    let n = length state.outs in
    let u = c.args.noted.vertex in
    let i = c.args.noted.count in
    let t = c.args.value in
    let callers = c.args.callers.now in
    let takers = c.args.takers.now in
    let at = noted_of state.sets.sets state.carried.items u i in
    let ways : c.as_slice-3.result.now ≡ callee_ways a at callers t ++ input_ways_of a state.natives.items takers t
    = c.as_slice-3.ensures.value ∙ c.in_ok-push_at_inputs.ensures
    ∙ (λ j. c.in_ok-push_at_callees.ensures j ++ input_ways_of a (c.as_slice-2.ensures.value j) takers t)
    ∙ (λ j. c.new-ways.ensures.items j ++ callee_ways a (noted_of state.sets.sets (c.as_slice.ensures.value j) u i) callers t ++ input_ways_of a state.natives.items takers t) in
    subst (λ (ws : List (Arrow ℕ)). (way : Arrow ℕ) → Contains ws way → Reason a (InSolution a) way) (sym ways)
    (found_sound a n state.sets.sets state.outs state.carried.items state.pending.items state.natives.items state.natives.items u i t c.requires.inside c.requires.values c.requires.notes c.requires.less c.requires.next callers takers c.requires.callers c.requires.takers)

pub returns-clause-notes : goal.returns-clause-notes
returns-clause-notes g c =
    let a = c.args.system.now in
    let state = c.args.state.now in
    let new = c.add_ways.new.state in
    let n = length state.outs in
    let u = c.args.noted.vertex in
    let i = c.args.noted.count in
    let t = c.args.value in
    let callers = c.args.callers.now in
    let takers = c.args.takers.now in
    let at = noted_of state.sets.sets state.carried.items u i in
    let found = callee_ways a at callers t ++ input_ways_of a state.natives.items takers t in
    let ways : c.as_slice-3.result.now ≡ found
    = c.as_slice-3.ensures.value ∙ c.in_ok-push_at_inputs.ensures
    ∙ (λ j. c.in_ok-push_at_callees.ensures j ++ input_ways_of a (c.as_slice-2.ensures.value j) takers t)
    ∙ (λ j. c.new-ways.ensures.items j ++ callee_ways a (noted_of state.sets.sets (c.as_slice.ensures.value j) u i) callers t ++ input_ways_of a state.natives.items takers t) in
    let k : Keeps a n (c.requires.notes.ways ++ c.as_slice-3.result.now) new.sets.sets new.outs state.carried.items new.pending.items = c.in_ok-add_ways.ensures.adds.keeps c.requires.notes.ways c.requires.notes.keeps in
    let keeps : Keeps a n (c.requires.notes.ways ++ found) new.sets.sets new.outs state.carried.items new.pending.items
    = subst (λ ws. Keeps a n (c.requires.notes.ways ++ ws) new.sets.sets new.outs state.carried.items new.pending.items) ways k in
    let notes : Notes a n new.sets.sets new.outs state.carried.items new.pending.items c.tell.new.natives.items u (i + 1)
    = Notes-more a n state.sets.sets state.outs state.carried.items state.pending.items state.natives.items c.tell.new.natives.items u i t c.requires.inside c.requires.values c.requires.notes c.requires.less c.requires.next callers takers
    c.requires.callers c.requires.takers new.sets.sets new.outs new.pending.items keeps c.in_ok-add_ways.ensures.adds.extends c.tell.ensures.count c.tell.ensures.told in
    subst (λ cs. Notes a n new.sets.sets new.outs cs new.pending.items new.natives.items u (i + 1)) (sym c.in_ok-add_ways.ensures.carried)
    (subst (λ fs. Notes a n new.sets.sets new.outs state.carried.items new.pending.items fs u (i + 1)) (sym c.in_ok-add_ways.ensures.natives) notes)
