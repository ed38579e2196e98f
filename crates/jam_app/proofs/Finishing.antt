-- What a status says after an output was to be written.
use Rattle.std.proofs.Common.{◌≡◌, ◌≢◌, ℕ, Bool, true, false, List, refl, sym, ap, subst, ◌∙◌, Option, Some, None}
use Rattle.std.specs.Option.{IfSome}
use Rattle.jam_base.specs.Causes.{Rose}
use Rattle.jam_base.specs.Files.{Files}
use Rattle.word_reader.specs.Requests.{Asked}
use Rattle.jam_app.specs.declared.answers.status.Status.{Status}
use Rattle.jam_app.specs.declared.answers.status.Status.TheVariants as statuses
use Rattle.jam_app.specs.declared.audit.report.Output.{Output}
use Rattle.jam_app.specs.declared.answers.line.Line.TheVariants.{Nothing}
use Rattle.jam_app.specs.Lines.{TellsStatus}
use Rattle.jam_app.specs.Outcomes.{Completes, IsOwedText, RefusesRightly, WhereTold, Writes, WritesOut, done_status}
use Rattle.jam_app.specs.Stops.{IsOwed}
use Rattle.jam_app.specs.Written.{TakesAll, TakesFront}
use Rattle.jam_app.proofs.Causes.{any_files, told}

pub done_told : (b : Bool) → TellsStatus (done_status b) Nothing
done_told true = refl
done_told false = refl

module _ (old new : Option (List ℕ)) (before now : ℕ) (output : Output) where
  -- the status of work that is done
  pub done_writes : (b : Bool) → output.alarmed ≡ b → now ≡ before → TakesAll old new output.text → Writes old new before now output (done_status b)
  done_writes true is same all = (same, is, all)
  done_writes false is same all = (same, is, all)

  pub no_usage : (status : Status) → Writes old new before now output status → status ≢ statuses.Usage
  no_usage status wrote is = subst (Writes old new before now output) is wrote

  pub no_read_fault : (status : Status) → Writes old new before now output status → status ≢ statuses.ReadFault
  no_read_fault status wrote is = subst (Writes old new before now output) is wrote

  pub write_fault : (status : Status) → Writes old new before now output status → status ≡ statuses.WriteFault → Rose before now
  write_fault status wrote is = (subst (Writes old new before now output) is wrote).0

  pub alarmed : (status : Status) → Writes old new before now output status → status ≡ statuses.Alarms → output.alarmed ≡ true
  alarmed status wrote is = (subst (Writes old new before now output) is wrote).1

  pub count_kept : (status : Status) → Writes old new before now output status → status ≢ statuses.WriteFault → now ≡ before
  count_kept statuses.Clean wrote not = wrote.0
  count_kept statuses.Alarms wrote not = wrote.0
  count_kept statuses.WriteFault wrote not = absurd (not refl)
  count_kept (statuses.Refused refusal) wrote not = absurd wrote
  count_kept statuses.ReadFault wrote not = absurd wrote
  count_kept statuses.NoMemory wrote not = absurd wrote
  count_kept statuses.Usage wrote not = absurd wrote

  module _ (asked : Asked) (files : Option Files) where
    pub refuses_rightly : (status : Status) → Writes old new before now output status → WhereTold (Some asked) files (RefusesRightly status)
    refuses_rightly statuses.Clean wrote = any_files files (λ m. tt)
    refuses_rightly statuses.Alarms wrote = any_files files (λ m. tt)
    refuses_rightly statuses.WriteFault wrote = any_files files (λ m. tt)
    refuses_rightly (statuses.Refused refusal) wrote = absurd wrote
    refuses_rightly statuses.ReadFault wrote = any_files files (λ m. tt)
    refuses_rightly statuses.NoMemory wrote = any_files files (λ m. tt)
    refuses_rightly statuses.Usage wrote = any_files files (λ m. tt)

    pub completes : (status : Status) → Writes old new before now output status → WhereTold (Some asked) files (Completes status)
    completes statuses.Clean wrote = any_files files (λ m. tt)
    completes statuses.Alarms wrote = any_files files (λ m. tt)
    completes statuses.WriteFault wrote = any_files files (λ m. tt)
    completes (statuses.Refused refusal) wrote = absurd wrote
    completes statuses.ReadFault wrote = any_files files (λ m. tt)
    completes statuses.NoMemory wrote = any_files files (λ m. tt)
    completes statuses.Usage wrote = absurd wrote

    -- the text that is owed, with whether there is an alarm
    owed_text : (b : Bool) → output.alarmed ≡ b → IfSome files (λ m. IsOwed asked m output) → IfSome files (λ m. IsOwedText asked m output.text b)
    owed_text b is owed = told files owed (λ m o. subst (λ (a : Bool). IsOwedText asked m output.text a) is o.text)

    pub writes_out : (status : Status) → Writes old new before now output status → IfSome files (λ m. IsOwed asked m output) → WritesOut (Some asked) files old new status
    writes_out statuses.Clean wrote owed = (output.text, owed_text false wrote.1 owed, wrote.2)
    writes_out statuses.Alarms wrote owed = (output.text, owed_text true wrote.1 owed, wrote.2)
    writes_out statuses.WriteFault wrote owed = (output.text, output.alarmed, owed_text output.alarmed refl owed, wrote.1)
    writes_out (statuses.Refused refusal) wrote owed = absurd wrote
    writes_out statuses.ReadFault wrote owed = absurd wrote
    writes_out statuses.NoMemory wrote owed = absurd wrote
    writes_out statuses.Usage wrote owed = absurd wrote
