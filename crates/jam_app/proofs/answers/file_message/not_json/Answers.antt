use Rattle.std.proofs.Common.{refl, ap, ◌∙◌}
use Rattle.std.proofs.lemmas.Result.{IfOk-weaker}
use Rattle.lock_reader.specs.declared.fault.LockFault.TheVariants as lock_fault
use Rattle.jam_app.specs.declared.answers.refusal.Refusal.TheVariants as refusal
use Rattle.jam_app.proofs.answers.file_message.not_json.Goals as goal

pub returns : goal.returns
returns c = (refl, c.of-line.ensures (refusal.Lock lock_fault.NotJson) (IfOk-weaker c.not_json_line.result _ _ (λ text e. (c.args.name.now, c.requires, e)) c.not_json_line.ensures))
