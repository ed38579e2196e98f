use Rattle.std.proofs.Common.{◌≡◌, ◌<◌, ◌+◌, length, get_or, refl, ap, sym, ◌∙◌, arith}
use Rattle.std.specs.Prelude.{Contains}
use Rattle.std.proofs.lemmas.List.Elements.{All-contains}
use Rattle.composer.specs.Numbered.{Below, IsCallableIn}
use Rattle.composer.specs.Solution.IsBase.{literal}
use Rattle.composer.proofs.BeginLemmas.{Begun-literal}
use Rattle.composer.proofs.carry.place_literals.Goals as goal

pub loop-callable-preserved : goal.loop-callable-preserved
loop-callable-preserved g c =
    let a = c.args.system.now in
    let n = length c.args.sets.now.sets in
    let i = c.loop-callable.callable-index in
    let f = c.callable-item.result in
    let lt : i < length a.functions = omega (arith, ap length c.as_slice-callable-items.ensures, c.loop-callable-test.true) in
    let is : get_or a.functions i f ≡ f = sym (c.callable-item.is ∙ ap (λ xs. get_or xs i f) c.as_slice-callable-items.ensures) in
    let below = (All-contains (IsCallableIn (Below n)) a.functions f c.requires.vertices.functions (i, lt, is)).literal in
    record {
      begun = Begun-literal a n i 0 f.value f.literal c.loop-callable.sets.sets c.carry.new.sets.sets c.loop-callable.pending.items c.carry.new.pending.items c.loop-callable.invariant.begun c.in_ok-carry.ensures.offers below
          (literal f (i, lt, is) refl refl) f lt is refl refl;
      cost = let e = c.loop-callable.invariant.cost in let h = c.in_ok-carry.ensures.steps in omega (arith, e, h);
    }
