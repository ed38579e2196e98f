use Rattle.std.proofs.Common.{◌≡◌, ◌<◌, ◌+◌, ◌*◌, length, get_or, take, ap, sym, ◌∙◌, subst, arith}
use Rattle.std.proofs.lemmas.List.{take_all, take_more}
use Rattle.std.proofs.lemmas.List.Elements.{Contains-get_or}
use Rattle.composer.specs.Work.{Offers}
use Rattle.composer.proofs.CarryLemmas.{Offers-more, Offers-none}
use Rattle.composer.proofs.carry.carry_to_each.Goals as goal

pub loop-vertex-init : goal.loop-vertex-init
loop-vertex-init g c = record { offers = Offers-none c.args.values.now c.args.sets.now.sets c.args.pending.now.items; cost = grind arith }

pub carry-requires-clause-vertex : goal.carry-requires-clause-vertex
carry-requires-clause-vertex g c =
    let vertices = c.args.vertices.now in
    let i = c.loop-vertex.vertex-index in
    let e = c.loop-vertex.invariant.offers.same_length in
    let lt = c.requires.vertices (get_or vertices i 0) (Contains-get_or vertices i 0 c.loop-vertex-test.true) in
    omega (arith, e, lt)

pub loop-vertex-preserved : goal.loop-vertex-preserved
loop-vertex-preserved g c =
    let vertices = c.args.vertices.now in
    let i = c.loop-vertex.vertex-index in
    record {
      offers = rw (take_more vertices i 0 c.loop-vertex-test.true)
          (Offers-more c.args.values.now (take i vertices) (get_or vertices i 0) c.args.sets.now.sets c.loop-vertex.sets.sets c.carry.new.sets.sets c.args.pending.now.items c.loop-vertex.pending.items c.carry.new.pending.items
          c.loop-vertex.invariant.offers c.in_ok-carry.ensures.offers);
      cost =
          let e = c.loop-vertex.invariant.cost in
          let f = c.in_ok-carry.ensures.steps in
          let g : length c.args.values.now * (i + 1) ≡ length c.args.values.now * i + length c.args.values.now = grind arith in
          omega (arith, e, f, g);
    }

pub returns-clause-offers : goal.returns-clause-offers
returns-clause-offers g c =
    subst (λ xs. Offers c.args.values.now xs c.args.sets.now.sets c.args.pending.now.items c.loop-vertex.sets.sets c.loop-vertex.pending.items) (take_all c.loop-vertex.vertex-index c.args.vertices.now c.loop-vertex-test.false) c.loop-vertex.invariant.offers

pub returns-clause-steps : goal.returns-clause-steps
returns-clause-steps g c =
    let f = c.loop-vertex-test.false in
    let far = c.loop-vertex.auto.vertex-index-end in
    let e : c.loop-vertex.vertex-index ≡ length c.args.vertices.now = omega (arith, f, far) in
    c.loop-vertex.invariant.cost ∙ ap (λ n. c.args.steps.now + length c.args.values.now * n) e
