use Rattle.std.proofs.Common.{◌≡◌, ◌<◌, ◌+◌, ◌∷◌, [], length, get_or, refl, ap, subst, arith}
use Rattle.std.proofs.lemmas.List.{get_or_default}
use Rattle.std.proofs.lemmas.List.Elements.{All-contains}
use Rattle.composer.specs.Numbered.{Below}
use Rattle.composer.specs.Solution.IsBase.{native}
use Rattle.composer.specs.Work.{Offers}
use Rattle.composer.proofs.BeginLemmas.{Begun-native}
use Rattle.composer.proofs.carry.place_natives.Goals as goal

pub loop-vertex-preserved : goal.loop-vertex-preserved
loop-vertex-preserved g c =
    let a = c.args.system.now in
    let n = length c.args.sets.now.sets in
    let j = c.loop-vertex.vertex-index in
    let v = get_or a.native_at j 0 in
    let lt : j < length a.native_at = omega (arith, ap length c.as_slice-vertex-items.ensures, c.loop-vertex-test.true) in
    let is : get_or a.native_at j v ≡ v = get_or_default a.native_at j v 0 lt in
    let old = c.loop-vertex.sets.sets in
    let new = c.carry.new.sets.sets in
    let p = c.loop-vertex.pending.items in
    let q = c.carry.new.pending.items in
    let offers : Offers (a.native ∷ []) (v ∷ []) old p new q = subst (λ xs. Offers (a.native ∷ []) (get_or xs j 0 ∷ []) old p new q) c.as_slice-vertex-items.ensures c.in_ok-carry.ensures.offers in
    let below = All-contains (Below n) a.native_at v c.requires.vertices.native_at (j, lt, is) in
    record {
      begun = Begun-native a n (length a.functions) j a.native v old new p q c.loop-vertex.invariant.begun offers below (native refl (j, lt, is)) lt is refl;
      cost = let e = c.loop-vertex.invariant.cost in let h = c.in_ok-carry.ensures.steps in omega (arith, e, h);
    }
