use Rattle.std.proofs.Common.{◌≡◌, ◌≤◌, ◌<◌, ◌+◌, ◌++◌, ◌∷◌, [], ℕ, List, length, get_or, take, ap, sym, ◌∙◌, subst, arith}
use Rattle.std.proofs.lemmas.List.{take_more}
use Rattle.std.proofs.lemmas.List.Elements.{Contains-get_or}
use Rattle.composer.specs.declared.system.Arrow.{Arrow}
use Rattle.composer.specs.Work.{Adds, Keeps, spent}
use Rattle.composer.proofs.AddLemmas.{Adds-more}
use Rattle.composer.proofs.worklist.add_ways.Goals as goal

pub add_way-requires-clause-sound : goal.add_way-requires-clause-sound
add_way-requires-clause-sound g c =
    let ways = c.args.ways.now in
    let i = c.loop-way.way-index in
    c.requires.sound (get_or ways i (record { from = 0; to = 0 })) (Contains-get_or ways i (record { from = 0; to = 0 }) c.loop-way-test.true)

pub add_way-requires-clause-keeps : goal.add_way-requires-clause-keeps
add_way-requires-clause-keeps g c =
    let a = c.args.system.now in
    let state = c.loop-way.state in
    let inv = c.loop-way.invariant in
    let found = c.requires.keeps.0 ++ take c.loop-way.way-index c.args.ways.now in
    let k : Keeps a (length c.args.state.now.outs) found state.sets.sets state.outs c.args.state.now.carried.items state.pending.items = inv.adds.keeps c.requires.keeps.0 c.requires.keeps.1 in
    let l : Keeps a (length state.outs) found state.sets.sets state.outs c.args.state.now.carried.items state.pending.items
    = subst (λ n. Keeps a n found state.sets.sets state.outs c.args.state.now.carried.items state.pending.items) (sym inv.adds.same_length) k in
    (found, subst (λ cs. Keeps a (length state.outs) found state.sets.sets state.outs cs state.pending.items) (sym inv.carried) l)

pub loop-way-preserved : goal.loop-way-preserved
loop-way-preserved g c =
    let a = c.args.system.now in
    let first = c.args.state.now in
    let n = length first.outs in
    let carried = first.carried.items in
    let state = c.loop-way.state in
    let new = c.add_way.new.state in
    let ways = c.args.ways.now in
    let i = c.loop-way.way-index in
    let way : Arrow ℕ = get_or ways i (record { from = 0; to = 0 }) in
    let inv = c.loop-way.invariant in
    let one : Adds a n (way ∷ []) state.carried.items state.sets.sets state.outs state.pending.items new.sets.sets new.outs new.pending.items
    = subst (λ m. Adds a m (way ∷ []) state.carried.items state.sets.sets state.outs state.pending.items new.sets.sets new.outs new.pending.items) inv.adds.same_length c.in_ok-add_way.ensures.adds in
    let last : Adds a n (way ∷ []) carried state.sets.sets state.outs state.pending.items new.sets.sets new.outs new.pending.items
    = subst (λ cs. Adds a n (way ∷ []) cs state.sets.sets state.outs state.pending.items new.sets.sets new.outs new.pending.items) inv.carried one in
    let more : c.add_way.new.steps + spent n state.carried.items state.outs ≡ c.loop-way.steps + spent n state.carried.items new.outs
    = subst (λ m. c.add_way.new.steps + spent m state.carried.items state.outs ≡ c.loop-way.steps + spent m state.carried.items new.outs) inv.adds.same_length c.in_ok-add_way.ensures.spent in
    let most : c.add_way.new.steps + spent n carried state.outs ≡ c.loop-way.steps + spent n carried new.outs
    = subst (λ cs. c.add_way.new.steps + spent n cs state.outs ≡ c.loop-way.steps + spent n cs new.outs) inv.carried more in
    record {
      adds = rw (take_more ways i (record { from = 0; to = 0 }) c.loop-way-test.true)
          (Adds-more a n (take i ways) way carried first.sets.sets first.outs first.pending.items state.sets.sets state.outs state.pending.items new.sets.sets new.outs new.pending.items inv.adds last);
      carried = c.in_ok-add_way.ensures.carried ∙ inv.carried;
      natives = c.in_ok-add_way.ensures.natives ∙ inv.natives;
      cost = let e = inv.cost in omega (arith, e, most);
    }
