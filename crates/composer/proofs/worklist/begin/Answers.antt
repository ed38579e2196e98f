use Rattle.std.proofs.Common.{◌≡◌, ℕ, false, List, [], length, replicate, ap, sym, ◌∙◌, subst, arith}
use Rattle.std.proofs.lemmas.List.{length-replicate, take_all}
use Rattle.set_pool.proofs.WindowLemmas.{from_nothing}
use Rattle.composer.specs.Rows.{row}
use Rattle.composer.specs.Work.{Begun, Rests, spent, targets_from}
use Rattle.composer.proofs.BeginLemmas.{Rests-begun, nothing_spent}
use Rattle.composer.proofs.worklist.begin.Goals as goal

pub returns-clause-rests : goal.returns-clause-rests
returns-clause-rests g c =
    let a = c.args.system.now in
    let n = c.args.count in
    let rows = c.place_bases.new.sets.sets in
    let pending = c.place_bases.new.pending.items in
    let carried_are : c.resize.new.self.items ≡ replicate n 0 = c.in_ok-resize.ensures.items ∙ from_nothing _ _ _ _ c.new-carried.ensures.items c.new-carried.ensures.len in
    let natives_are : c.resize-2.new.self.items ≡ replicate n false = c.in_ok-resize-2.ensures.items ∙ from_nothing _ _ _ _ c.new-natives.ensures.items c.new-natives.ensures.len in
    let count : length c.in_ok-sets.sets.sets ≡ n = ap length c.in_ok-sets.ensures ∙ length-replicate n [] in
    let begun : Begun a n (length a.functions) (length a.native_at) rows pending = subst (λ m. Begun a m (length a.functions) (length a.native_at) rows pending) count c.in_ok-place_bases.ensures.begun in
    let outs_are : (v : ℕ) → row c.in_ok-outs.outs v ≡ targets_from v a.flows = subst (λ ws. (v : ℕ) → row c.in_ok-outs.outs v ≡ targets_from v ws) c.as_slice.ensures c.in_ok-outs.ensures.targets in
    rw (carried_are, natives_are)
    (Rests-begun a n (length a.functions) (length a.native_at) rows c.in_ok-outs.outs pending begun (take_all (length a.functions) a.functions (omega arith)) (take_all (length a.native_at) a.native_at (omega arith)) c.in_ok-outs.ensures.count outs_are)

pub returns-clause-nothing : goal.returns-clause-nothing
returns-clause-nothing g c =
    let carried_are : c.resize.new.self.items ≡ replicate c.args.count 0 = c.in_ok-resize.ensures.items ∙ from_nothing _ _ _ _ c.new-carried.ensures.items c.new-carried.ensures.len in
    rw carried_are (nothing_spent c.args.count c.in_ok-outs.outs)
