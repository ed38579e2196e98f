-- What a run owes: its status, and what its output has taken, over the request and the files.
use Rattle.std.specs.Prelude.{◌≡◌, ℕ, Bool, true, false, List, ◌⊎◌, Option, IfSome, Some, None}
use Rattle.jam_base.specs.Causes.{Rose}
use Rattle.jam_base.specs.Files.{Files}
use Rattle.jam_app.specs.declared.audit.report.Output.{Output}
use Rattle.word_reader.specs.declared.table.Command.{Command}
use Rattle.word_reader.specs.declared.table.Command.TheVariants as command
use Rattle.jam_app.specs.Audits.{IsAuditText}
use Rattle.jam_app.specs.Graphs.{IsGraphText}
use Rattle.jam_app.specs.Refusals.{IsRefusal}
use Rattle.word_reader.specs.Requests.{Asked}
use Rattle.jam_app.specs.Written.{TakesAll, TakesFront}
use Rattle.jam_app.specs.declared.answers.refusal.Refusal.{Refusal}
use Rattle.jam_app.specs.declared.answers.status.Status.{Status}
use Rattle.jam_app.specs.declared.answers.status.Status.TheVariants.{Clean, Alarms, Refused, ReadFault, WriteFault, NoMemory, Usage}

-- a fact of the request and the files, where the words are canonical and the folder tells its files
abbrev pub WhereTold : Option Asked → Option Files → (Asked → Files → Type 0) → Type 0
WhereTold request files P = IfSome request (λ asked. IfSome files (λ m. P asked m))

-- canonical words of `audit`
abbrev pub IsAudit : Option Asked → Type 0
IsAudit None = ⊥
IsAudit (Some asked) = asked.command ≡ command.Audit

-- a refusal is answered only where it is owed
abbrev pub RefusesRightly : Status → Asked → Files → Type 0
RefusesRightly (Refused refusal) asked files = IsRefusal asked files refusal
RefusesRightly status asked files = Unit {0}

-- no refusal is owed
abbrev pub IsUnrefused : Asked → Files → Type 0
IsUnrefused asked files = (owed : Refusal) → IsRefusal asked files owed → ⊥

-- where a refusal is owed, one is answered, unless the folder failed or memory ran out: all other statuses come only where none is
abbrev pub RefusesAlways : Status → Asked → Files → Type 0
RefusesAlways (Refused refusal) asked files = Unit {0}
RefusesAlways ReadFault asked files = Unit {0}
RefusesAlways NoMemory asked files = Unit {0}
RefusesAlways Clean asked files = IsUnrefused asked files
RefusesAlways Alarms asked files = IsUnrefused asked files
RefusesAlways WriteFault asked files = IsUnrefused asked files
RefusesAlways Usage asked files = IsUnrefused asked files

-- where no refusal is owed, the work is done, unless the folder or the output failed or memory ran out
abbrev pub Completes : Status → Asked → Files → Type 0
Completes Clean asked files = Unit {0}
Completes Alarms asked files = Unit {0}
Completes ReadFault asked files = Unit {0}
Completes WriteFault asked files = Unit {0}
Completes NoMemory asked files = Unit {0}
Completes (Refused refusal) asked files = IsUnrefused asked files → ⊥
Completes Usage asked files = IsUnrefused asked files → ⊥

-- the text that a command owes, and whether there is an alarm: the report of `audit`, and the call graph of `graph`
abbrev pub IsTextOf : Command → Asked → Files → List ℕ → Bool → Type 0
IsTextOf command.Audit asked files text alarmed = IsAuditText asked files text alarmed
IsTextOf command.Graph asked files text alarmed = IsGraphText (Some asked.operand) files text × (alarmed ≡ false)

abbrev pub IsOwedText : Asked → Files → List ℕ → Bool → Type 0
IsOwedText asked files text alarmed = IsTextOf asked.command asked files text alarmed

-- what the status says of the output: the whole text that is owed, a front of it, or nothing; `Alarms` comes where there is an alarm, `Clean` where there is none
abbrev pub OutputIs : Option (List ℕ) → Option (List ℕ) → (List ℕ → Bool → Type 0) → Status → Type 0
OutputIs old new owed Clean = (text : List ℕ) × owed text false × TakesAll old new text
OutputIs old new owed Alarms = (text : List ℕ) × owed text true × TakesAll old new text
OutputIs old new owed WriteFault = (text : List ℕ) × (alarmed : Bool) × owed text alarmed × TakesFront old new text
OutputIs old new owed (Refused refusal) = new ≡ old
OutputIs old new owed ReadFault = new ≡ old
OutputIs old new owed NoMemory = new ≡ old
OutputIs old new owed Usage = new ≡ old

abbrev pub WritesOut : Option Asked → Option Files → Option (List ℕ) → Option (List ℕ) → Status → Type 0
WritesOut request files old new status = OutputIs old new (λ text alarmed. WhereTold request files (λ asked m. IsOwedText asked m text alarmed)) status

-- after a whole text was to be written: all of it is, or the output failed and has a front of it
abbrev pub Writes : Option (List ℕ) → Option (List ℕ) → ℕ → ℕ → Output → Status → Type 0
Writes old new before now output Clean = (now ≡ before) × (output.alarmed ≡ false) × TakesAll old new output.text
Writes old new before now output Alarms = (now ≡ before) × (output.alarmed ≡ true) × TakesAll old new output.text
Writes old new before now output WriteFault = Rose before now × TakesFront old new output.text
Writes old new before now output status = ⊥

abbrev pub done_status : Bool → Status
done_status true = Alarms
done_status false = Clean
