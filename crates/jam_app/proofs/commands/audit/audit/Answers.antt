use Rattle.std.proofs.Common.{◌≡◌, Bool, Option, ℕ, List, Err, arith, refl, ap, subst, sym, ◌∙◌}
use Rattle.std.specs.Option.{IfSome, option_map}
use Rattle.jam_base.specs.Files.{Files}
use Rattle.word_reader.specs.declared.table.Command.{Command}
use Rattle.word_reader.specs.Requests.{entry_asked}
use Rattle.advisory_reader.specs.declared.advisory.Advisory.{Advisory}
use Rattle.jam_app.specs.Audits.{written}
use Rattle.jam_app.specs.AuditFiles.{HasAdvisories, HasLock, IsAdvisoryRefusal, IsLockRefusal}
use Rattle.jam_app.specs.Entries.{Start, begun, start_of}
use Rattle.jam_app.specs.Loading.{IsWhole, loaded_size}
use Rattle.jam_app.specs.Refusals.{IsLoadRefusal, IsRefusal, ReadsFiles, advisories, load, lock}
use Rattle.jam_app.proofs.Causes.{any_files, both_told, counts_on, handed_on, three_told, told}
use Rattle.jam_app.proofs.CommandLemmas.{audit_owed, reads_both, wide_cause}
use Rattle.jam_app.proofs.Wide.{wide_counts}
use Rattle.jam_app.proofs.commands.audit.audit.Goals as goal

pub report_of-requires-clause-few : goal.report_of-requires-clause-few
report_of-requires-clause-few g c = omega (arith, c.in_ok-application.ensures.few)

pub returns-in_err-lock-clause-gives : goal.returns-in_err-lock-clause-gives
returns-in_err-lock-clause-gives g c =
    let files = g.F.Folder.files c.args.folder.now in
    handed_on _ IsLockRefusal (IsRefusal c.args.request.now) files _ _ _ _ c.in_err-lock.field-0.0 c.from_residual.result
    c.from_residual.ensures.1 refl (omega arith) (any_files files (λ m owed r. lock owed c.requires r)) c.in_err-lock.ensures.gives

pub returns-in_err-advisories-clause-gives : goal.returns-in_err-advisories-clause-gives
returns-in_err-advisories-clause-gives g c =
    let files = g.F.Folder.files c.args.folder.now in
    handed_on _ (λ m owed. IsAdvisoryRefusal m c.operand.result.now owed) (IsRefusal c.args.request.now) files _ _ _ _ c.in_err-advisories.field-0.0 c.from_residual-in_err-advisories.result
    c.from_residual-in_err-advisories.ensures.1 c.in_ok-lock.ensures.same c.in_ok-lock.ensures.counts.later
    (told files c.in_ok-lock.ensures.gives (λ m has owed r. advisories owed c.in_ok-lock.lock.entries c.requires has (subst (λ (n : List ℕ). IsAdvisoryRefusal m n owed) c.operand.ensures r))) c.in_err-advisories.ensures.gives

pub returns-in_err-advisories-clause-counts : goal.returns-in_err-advisories-clause-counts
returns-in_err-advisories-clause-counts g c =
    counts_on _ _ _ c.in_err-advisories.field-0.0 c.from_residual-in_err-advisories.result c.from_residual-in_err-advisories.ensures.1 c.in_ok-lock.ensures.counts.done c.in_err-advisories.ensures.counts

pub returns-in_err-application-clause-gives : goal.returns-in_err-application-clause-gives
returns-in_err-application-clause-gives g c =
    let files = g.F.Folder.files c.args.folder.now in
    let asked = c.args.request.now in
    let entries = c.in_ok-lock.lock.entries in
    let advised = c.in_ok-advisories.advisories in
    let start : begun (option_map (λ t. t.now) c.start.result) c.skips_refused.result ≡ start_of asked = λ i. begun (c.start.ensures i) (c.skips_refused.ensures i) in
    let has_advisories : IfSome files (λ m. HasAdvisories m c.operand.result.now advised) = subst (λ (fs : Option Files). IfSome fs (λ m. HasAdvisories m c.operand.result.now advised)) c.in_ok-lock.ensures.same c.in_ok-advisories.ensures.gives in
    handed_on _ (IsLoadRefusal (begun (option_map (λ t. t.now) c.start.result) c.skips_refused.result)) (IsRefusal asked) files _ _ _ _ c.in_err-application.field-0.0 c.from_residual-in_err-application.result
    c.from_residual-in_err-application.ensures.1 (c.in_ok-advisories.ensures.same ∙ c.in_ok-lock.ensures.same) (omega (arith, c.in_ok-lock.ensures.counts.later, c.in_ok-advisories.ensures.counts.later))
    (both_told files c.in_ok-lock.ensures.gives has_advisories (λ m l a owed r.
    load owed (reads_both asked m entries advised c.requires l (subst (λ (n : List ℕ). HasAdvisories m n advised) c.operand.ensures a)) (subst (λ (s : Start). IsLoadRefusal s m owed) start r)))
    c.in_err-application.ensures.gives

pub returns-in_err-application-clause-counts : goal.returns-in_err-application-clause-counts
returns-in_err-application-clause-counts g c =
    counts_on _ _ _ c.in_err-application.field-0.0 c.from_residual-in_err-application.result c.from_residual-in_err-application.ensures.1
    (c.in_ok-advisories.ensures.counts.done ∙ c.in_ok-lock.ensures.counts.done) c.in_err-application.ensures.counts

pub returns-in_err-report-clause-gives : goal.returns-in_err-report-clause-gives
returns-in_err-report-clause-gives g c =
    let files = g.F.Folder.files c.args.folder.now in
    let asked = c.args.request.now in
    let entries = c.in_ok-lock.lock.entries in
    let advised = c.in_ok-advisories.advisories in
    let app = c.in_ok-application.application in
    let start : begun (option_map (λ t. t.now) c.start.result) c.skips_refused.result ≡ start_of asked = λ i. begun (c.start.ensures i) (c.skips_refused.ensures i) in
    let read = three_told (λ m. HasLock m entries) (λ m. HasAdvisories m c.operand.result.now advised) (λ m. IsWhole (begun (option_map (λ t. t.now) c.start.result) c.skips_refused.result) m app.entry app.modules.items) files _ _ c.in_ok-lock.ensures.same c.in_ok-advisories.ensures.same c.in_ok-lock.ensures.gives c.in_ok-advisories.ensures.gives c.in_ok-application.ensures.gives in
    let whole : IfSome files (λ m. IsWhole (start_of asked) m app.entry app.modules.items × ReadsFiles asked.command asked.operand m)
    = told files read (λ m r. (
      subst (λ (s : Start). IsWhole s m app.entry app.modules.items) start r.2,
      reads_both asked m entries advised c.requires r.0 (subst (λ (n : List ℕ). HasAdvisories m n advised) c.operand.ensures r.1),
    )) in
    let before = g.F.Folder.faults c.args.folder.now in
    handed_on _ (IsRefusal asked) (IsRefusal asked) files files before before _ c.in_err-report.field-0.0 c.from_residual-in_err-report.result
    c.from_residual-in_err-report.ensures.1 refl (omega arith) (any_files files (λ m r p. p)) (wide_cause asked files before _ app.entry app.modules.items c.in_err-report.field-0.0 whole c.in_err-report.ensures.wide)

pub returns-in_err-report-clause-counts : goal.returns-in_err-report-clause-counts
returns-in_err-report-clause-counts g c =
    counts_on _ _ _ c.in_err-report.field-0.0 c.from_residual-in_err-report.result c.from_residual-in_err-report.ensures.1
    (c.in_ok-application.ensures.counts.done ∙ c.in_ok-advisories.ensures.counts.done ∙ c.in_ok-lock.ensures.counts.done)
    (wide_counts {X = ℕ} (loaded_size c.in_ok-application.application.modules.items) _ (Err c.in_err-report.field-0.0) c.in_err-report.ensures.wide)

pub returns-clause-gives : goal.returns-clause-gives
returns-clause-gives g c =
    let files = g.F.Folder.files c.args.folder.now in
    let asked = c.args.request.now in
    let entries = c.in_ok-lock.lock.entries in
    let advised = c.in_ok-advisories.advisories in
    let app = c.in_ok-application.application in
    let report = c.in_ok-report.report in
    let start : begun (option_map (λ t. t.now) c.start.result) c.skips_refused.result ≡ start_of asked = λ i. begun (c.start.ensures i) (c.skips_refused.ensures i) in
    let plain : start_of asked ≡ begun asked.entry asked.skip_refused = ap (λ (k : Command). begun (entry_asked k asked.operand asked.entry) asked.skip_refused) c.requires in
    told files (three_told (λ m. HasLock m entries) (λ m. HasAdvisories m c.operand.result.now advised) (λ m. IsWhole (begun (option_map (λ t. t.now) c.start.result) c.skips_refused.result) m app.entry app.modules.items) files _ _ c.in_ok-lock.ensures.same c.in_ok-advisories.ensures.same c.in_ok-lock.ensures.gives c.in_ok-advisories.ensures.gives c.in_ok-application.ensures.gives) (λ m r.
    let whole : IsWhole (start_of asked) m app.entry app.modules.items = subst (λ (s : Start). IsWhole s m app.entry app.modules.items) start r.2 in
    let has : HasAdvisories m asked.operand advised = subst (λ (n : List ℕ). HasAdvisories m n advised) c.operand.ensures r.1 in
    let made = c.in_ok-report.ensures.report asked m r.0 (subst (λ (list : List Advisory). HasAdvisories m asked.operand list) (sym c.as_slice.ensures) has) (subst (λ (s : Start). IsWhole s m app.entry app.modules.items) plain whole) in
    audit_owed asked m app.entry app.modules.items entries advised report c.in_ok-written_report.field-0 c.requires r.0 has whole c.in_ok-report.ensures.narrow made
    (c.in_ok-written_report.ensures.text ∙ ap (λ (json : Bool). written json report) c.is_json.ensures) c.in_ok-written_report.ensures.alarmed)
