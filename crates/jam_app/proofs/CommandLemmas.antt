-- What the commands owe.
use Rattle.std.proofs.Common.{◌≡◌, ℕ, ◌<◌, ◌≤◌, inl, inr, Bool, true, false, List, refl, sym, ap, subst, ◌∙◌, Option, Some, None, Result, Ok, Err}
use Rattle.std.specs.Option.{IfSome}
use Rattle.jam_base.specs.Files.{Files}
use Rattle.composer.specs.Sizes.{size_limit}
use Rattle.lock_reader.specs.declared.lock.LockEntry.{LockEntry}
use Rattle.advisory_reader.specs.declared.advisory.Advisory.{Advisory}
use Rattle.report_text.specs.declared.report.Report.{Report}
use Rattle.jam_app.specs.declared.answers.refusal.Refusal.{Refusal}
use Rattle.jam_app.specs.declared.answers.refusal.Refusal.TheVariants as refusal
use Rattle.jam_app.specs.declared.answers.stop.Stop.{Stop}
use Rattle.jam_app.specs.declared.audit.report.Output.{Output}
use Rattle.word_reader.specs.declared.table.Command.{Command}
use Rattle.word_reader.specs.declared.table.Command.TheVariants as command
use Rattle.jam_app.specs.declared.loading.loaded.Loaded.{Loaded}
use Rattle.jam_app.specs.AuditFiles.{HasAdvisories, HasLock}
use Rattle.jam_app.specs.Audits.{IsReport, is_alarmed, written}
use Rattle.jam_app.specs.Entries.{Start, begun, start_of}
use Rattle.jam_app.specs.Graphs.{IsGraphText}
use Rattle.jam_app.specs.Loading.{IsWhole, loaded_size}
use Rattle.jam_app.specs.Outcomes.{IsOwedText, IsTextOf, IsUnrefused}
use Rattle.jam_app.specs.Refusals as refusals
use Rattle.jam_app.specs.Refusals.{IsRefusal, ReadsFiles}
use Rattle.word_reader.specs.Requests.{Asked, entry_asked}
use Rattle.jam_app.specs.Stops.{HasStopCause, IsOwed, StopsWide}
use Rattle.jam_app.proofs.Causes.{refused_stop, told}
use Rattle.jam_app.proofs.FileLemmas.{advisories_apart, lock_apart}
use Rattle.jam_app.proofs.Wide.{is_too_wide, not_too_wide}

no_audit : command.Graph ≡ command.Audit → ⊥
no_audit e = cc

-- `graph` reads no file beside the application
pub reads_nothing : (asked : Asked) (m : Files) → asked.command ≡ command.Graph → ReadsFiles asked.command asked.operand m
reads_nothing asked m is = subst (λ k. ReadsFiles k asked.operand m) (sym is) tt

pub reads_both : (asked : Asked) (m : Files) (entries : List LockEntry) (advisories : List Advisory) → asked.command ≡ command.Audit → HasLock m entries → HasAdvisories m asked.operand advisories
    → ReadsFiles asked.command asked.operand m
reads_both asked m entries advisories is lock advised = subst (λ k. ReadsFiles k asked.operand m) (sym is) (entries, advisories, lock, advised)

module _ (asked : Asked) (m : Files) (path : List ℕ) (loaded : List Loaded) (whole : IsWhole (start_of asked) m path loaded) where
  -- no refusal is owed where modules aren't too wide, and the files of `audit` are as they should be
  pub graph_unrefused : asked.command ≡ command.Graph → loaded_size loaded < size_limit → IsUnrefused asked m
  graph_unrefused is narrow owed (refusals.lock o e h) = no_audit (sym is ∙ e)
  graph_unrefused is narrow owed (refusals.advisories o entries e l h) = no_audit (sym is ∙ e)
  graph_unrefused is narrow owed (refusals.load o r h) = whole.unrefused owed h
  graph_unrefused is narrow owed (refusals.too_wide n r w) = not_too_wide (start_of asked) m path loaded whole narrow n w

  pub audit_unrefused : (entries : List LockEntry) (advisories : List Advisory) → HasLock m entries → HasAdvisories m asked.operand advisories → loaded_size loaded < size_limit → IsUnrefused asked m
  audit_unrefused entries advisories lock advised narrow owed (refusals.lock o e h) = lock_apart m entries owed lock h
  audit_unrefused entries advisories lock advised narrow owed (refusals.advisories o es e l h) = advisories_apart m asked.operand advisories owed advised h
  audit_unrefused entries advisories lock advised narrow owed (refusals.load o r h) = whole.unrefused owed h
  audit_unrefused entries advisories lock advised narrow owed (refusals.too_wide n r w) = not_too_wide (start_of asked) m path loaded whole narrow n w

  -- what `graph` owes
  pub graph_owed : (text : List ℕ) → asked.command ≡ command.Graph → loaded_size loaded < size_limit → IsGraphText (start_of asked).entry m text → IsOwed asked m (record { text = text; alarmed = false })
  graph_owed text is narrow graph = record {
    text = subst (λ k. IsTextOf k asked m text false) (sym is) (subst (λ k. IsGraphText (entry_asked k asked.operand asked.entry) m text) is graph, refl);
    unrefused = graph_unrefused is narrow;
  }

-- what `audit` owes
pub audit_owed : (asked : Asked) (m : Files) (path : List ℕ) (loaded : List Loaded) (entries : List LockEntry) (advisories : List Advisory) (report : Report) (output : Output) → asked.command ≡ command.Audit
    → HasLock m entries → HasAdvisories m asked.operand advisories → IsWhole (start_of asked) m path loaded → loaded_size loaded < size_limit → IsReport asked m report
    → output.text ≡ written asked.json report → output.alarmed ≡ is_alarmed report.alarms → IsOwed asked m output
audit_owed asked m path loaded entries advisories report output is lock advised whole narrow reported text alarmed = record {
  text = subst (λ k. IsTextOf k asked m output.text output.alarmed) (sym is) (record { report = report; report_is = reported; text_is = text; alarmed_is = alarmed });
  unrefused = audit_unrefused asked m path loaded whole entries advisories lock advised narrow;
}

-- composition that stops since the modules are too wide is a refusal of the request
pub wide_cause : (asked : Asked) (files : Option Files) (before now : ℕ) (path : List ℕ) (loaded : List Loaded) (stop : Stop) → IfSome files (λ m. IsWhole (start_of asked) m path loaded × ReadsFiles asked.command asked.operand m)
    → StopsWide (loaded_size loaded) stop → HasStopCause (IsRefusal asked) files before now stop
wide_cause asked files before now path loaded stop whole (inl none) = subst (HasStopCause (IsRefusal asked) files before now) (sym none) tt
wide_cause asked files before now path loaded stop whole (inr (over, refuses)) =
    refused_stop (IsRefusal asked) (refusal.TooWide (loaded_size loaded)) files before now stop refuses
    (told files whole (λ m w. refusals.too_wide (loaded_size loaded) w.1 (is_too_wide (start_of asked) m path loaded w.0 over)))
