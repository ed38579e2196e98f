use Rattle.std.proofs.Common.{ℕ, ◌∙◌, arith, length-take, length-drop}
use Rattle.jam_app.proofs.Pieces.{more_taken}
use Rattle.jam_app.proofs.answers.write.write_all.Goals as goal

pub loop-done-preserved : goal.loop-done-preserved
loop-done-preserved g c = record {
  within = omega (arith, c.in_ok-count.ensures.within, length-take {A = ℕ}, length-drop {A = ℕ});
  front = more_taken _ _ _ c.args.bytes.now c.loop-done.done c.in_ok-count.count c.loop-done.invariant.front c.in_ok-count.ensures.ok;
  same = c.in_ok-count.ensures.cause.kept ∙ c.loop-done.invariant.same;
}
