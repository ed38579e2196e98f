use Rattle.std.proofs.Common.{◌+◌, ◌<◌, [], length, drop, arith, refl}
use Rattle.std.specs.Str.{bytes_eq}
use Rattle.jam_base.proofs.Joined.{next_part, texts}
use Rattle.node_resolve.specs.Shapes.{is_among}
use Rattle.node_resolve.proofs.Any.{any_found, any_left}
use Rattle.node_resolve.proofs.shape.is_among.Goals as goal

pub returns-then-is_same : goal.returns-then-is_same
returns-then-is_same c =
    let lt : c.loop-name.name-index < length c.args.names.now = omega arith in
    any_found (λ ns. is_among ns c.args.text.now) (λ n. bytes_eq n c.args.text.now) (λ x xs. refl) (texts c.args.names.now) _ (drop (c.loop-name.name-index + 1) (texts c.args.names.now)) _
    (next_part c.args.names.now c.loop-name.name-index (record { ref_ptr = (0, 0); now = [] }) lt) c.loop-name.invariant c.if-is_same.ensures

pub loop-name-preserved : goal.loop-name-preserved
loop-name-preserved c =
    let lt : c.loop-name.name-index < length c.args.names.now = omega arith in
    any_left (λ ns. is_among ns c.args.text.now) (λ n. bytes_eq n c.args.text.now) (λ x xs. refl) (texts c.args.names.now) _ (drop (c.loop-name.name-index + 1) (texts c.args.names.now)) _
    (next_part c.args.names.now c.loop-name.name-index (record { ref_ptr = (0, 0); now = [] }) lt) c.loop-name.invariant c.if-is_same.ensures
