use Rattle.std.proofs.Common.{◌≡◌, ◌<◌, ◌+◌, [], ℕ, List, length, ap, sym, ◌∙◌, subst, arith}
use Rattle.std.specs.Prelude.{All}
use Rattle.composer.specs.declared.system.Arrow.{Arrow}
use Rattle.composer.specs.Uses.{bases_of}
use Rattle.composer.specs.Work.{Rests, callee_places, input_places}
use Rattle.composer.proofs.KeepLemmas.{solution_there}
use Rattle.composer.proofs.StateLemmas.{callee_places_below, input_places_below, no_items, spent_all}
use Rattle.composer.proofs.worklist.solve.Goals as goal

pub targets_of-requires : goal.targets_of-requires
targets_of-requires g c =
    let a = c.args.system.now in
    let places : c.as_slice-3.result.now ≡ callee_places 0 a.sites = c.as_slice-3.ensures.value ∙ c.in_ok-callees.ensures ∙ ap (callee_places 0) c.as_slice.ensures in
    subst (All (λ (way : Arrow ℕ). way.from < c.args.count)) (sym places) (callee_places_below c.args.count 0 a.sites c.requires.vertices.sites)

pub targets_of-requires-2 : goal.targets_of-requires-2
targets_of-requires-2 g c =
    let a = c.args.system.now in
    let places : c.as_slice-4.result.now ≡ input_places 0 a.sites = c.as_slice-4.ensures.value ∙ c.in_ok-inputs.ensures ∙ ap (input_places 0) c.as_slice-2.ensures in
    subst (All (λ (way : Arrow ℕ). way.from < c.args.count)) (sym places) (input_places_below c.args.count 0 a.sites c.requires.vertices.sites)

pub returns-clause-solution : goal.returns-clause-solution
returns-clause-solution g c =
    let a = c.args.system.now in
    let state = c.loop-vertex.state in
    let short : length state.pending.items ≡ 0 = let ok = state.pending.ok.0 in let none = (c.in_default.ensures {u = tt}).cases.0 in omega (arith, ok, none) in
    let rests : Rests a c.args.count state.sets.sets state.outs state.carried.items [] state.natives.items
    = subst (λ ps. Rests a c.args.count state.sets.sets state.outs state.carried.items ps state.natives.items) (no_items state.pending.items short) c.loop-vertex.invariant.rests in
    solution_there a c.args.count state.sets.sets state.outs state.carried.items state.natives.items c.requires.vertices c.requires.values rests

pub returns-clause-work : goal.returns-clause-work
returns-clause-work g c =
    let a = c.args.system.now in
    let state = c.loop-vertex.state in
    let short : length state.pending.items ≡ 0 = let ok = state.pending.ok.0 in let none = (c.in_default.ensures {u = tt}).cases.0 in omega (arith, ok, none) in
    let rests : Rests a c.args.count state.sets.sets state.outs state.carried.items [] state.natives.items
    = subst (λ ps. Rests a c.args.count state.sets.sets state.outs state.carried.items ps state.natives.items) (no_items state.pending.items short) c.loop-vertex.invariant.rests in
    c.loop-vertex.invariant.cost ∙ ap (λ k. c.args.steps.now + bases_of a + k) (spent_all a c.args.count state.sets.sets state.outs state.carried.items state.natives.items c.requires.vertices c.requires.values rests)
