use Rattle.std.proofs.Common.{refl, ap, ◌∙◌}
use Rattle.std.proofs.lemmas.Result.{IfOk-weaker}
use Rattle.lock_reader.specs.declared.fault.LockFault.TheVariants as lock_fault
use Rattle.jam_app.specs.declared.answers.refusal.Refusal.TheVariants as refusal
use Rattle.jam_app.specs.Lines.{shape_line}
use Rattle.jam_app.proofs.answers.file_message.wrong_shape.Goals as goal

pub returns : goal.returns
returns c =
    (refl, c.of-line.ensures (refusal.Lock (lock_fault.Shape c.args.place)) (IfOk-weaker c.shape_line.result _ _ (λ text e. (c.args.name.now, c.requires, e ∙ ap (shape_line c.args.name.now) c.as_str.ensures)) c.shape_line.ensures))
