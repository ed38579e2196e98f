use Rattle.std.proofs.Common.{◌+◌, ◌<◌, [], ◌∷◌, length, drop, arith, refl, codes}
use Rattle.jam_base.proofs.Joined.{next_part, texts}
use Rattle.node_resolve.specs.Shapes.{is_among}
use Rattle.node_resolve.specs.Exports.{has_odd_part}
use Rattle.node_resolve.proofs.Any.{any_found, any_left}
use Rattle.node_resolve.proofs.pick.has_odd_part.Goals as goal

pub returns-then-is_among : goal.returns-then-is_among
returns-then-is_among c =
    let lt : c.loop-part.part-index < length c.args.parts.now = omega arith in
    any_found has_odd_part (is_among (codes "." ∷ codes ".." ∷ codes "node_modules" ∷ [])) (λ x xs. refl) (texts c.args.parts.now) _ (drop (c.loop-part.part-index + 1) (texts c.args.parts.now)) _
    (next_part c.args.parts.now c.loop-part.part-index (record { ref_ptr = (0, 0); now = [] }) lt) c.loop-part.invariant c.if-is_among.ensures

pub loop-part-preserved : goal.loop-part-preserved
loop-part-preserved c =
    let lt : c.loop-part.part-index < length c.args.parts.now = omega arith in
    any_left has_odd_part (is_among (codes "." ∷ codes ".." ∷ codes "node_modules" ∷ [])) (λ x xs. refl) (texts c.args.parts.now) _ (drop (c.loop-part.part-index + 1) (texts c.args.parts.now)) _
    (next_part c.args.parts.now c.loop-part.part-index (record { ref_ptr = (0, 0); now = [] }) lt) c.loop-part.invariant c.if-is_among.ensures
