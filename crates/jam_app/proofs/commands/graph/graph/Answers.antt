use Rattle.std.proofs.Common.{◌≡◌, Bool, Option, ℕ, Err, arith, refl, subst, sym}
use Rattle.std.specs.Option.{IfSome, option_map}
use Rattle.jam_base.specs.Files.{Files}
use Rattle.jam_app.specs.Entries.{Start, begun, start_of}
use Rattle.jam_app.specs.Loading.{IsWhole, loaded_size}
use Rattle.jam_app.specs.Refusals.{IsLoadRefusal, IsRefusal, ReadsFiles, load}
use Rattle.jam_app.proofs.Causes.{any_files, counts_on, handed_on, told}
use Rattle.jam_app.proofs.CommandLemmas.{graph_owed, reads_nothing, wide_cause}
use Rattle.jam_app.proofs.Wide.{wide_counts}
use Rattle.jam_app.proofs.commands.graph.graph.Goals as goal

pub printed_edges-requires-clause-few : goal.printed_edges-requires-clause-few
printed_edges-requires-clause-few g c = omega (arith, c.in_ok-application.ensures.few)

pub returns-in_err-application-clause-gives : goal.returns-in_err-application-clause-gives
returns-in_err-application-clause-gives g c =
    let files = g.F.Folder.files c.args.folder.now in
    let asked = c.args.request.now in
    let start : begun (option_map (λ t. t.now) c.start.result) c.skips_refused.result ≡ start_of asked = λ i. begun (c.start.ensures i) (c.skips_refused.ensures i) in
    handed_on _ (IsLoadRefusal (begun (option_map (λ t. t.now) c.start.result) c.skips_refused.result)) (IsRefusal asked) files _ _ _ _ c.in_err-application.field-0.0 c.from_residual.result
    c.from_residual.ensures.1 refl (omega arith) (any_files files (λ m r p. load r (reads_nothing asked m c.requires) (subst (λ (s : Start). IsLoadRefusal s m r) start p))) c.in_err-application.ensures.gives

pub returns-in_err-text-clause-gives : goal.returns-in_err-text-clause-gives
returns-in_err-text-clause-gives g c =
    let files = g.F.Folder.files c.args.folder.now in
    let asked = c.args.request.now in
    let app = c.in_ok-application.application in
    let start : begun (option_map (λ t. t.now) c.start.result) c.skips_refused.result ≡ start_of asked = λ i. begun (c.start.ensures i) (c.skips_refused.ensures i) in
    let whole : IfSome files (λ m. IsWhole (start_of asked) m app.entry app.modules.items × ReadsFiles asked.command asked.operand m)
    = told files c.in_ok-application.ensures.gives (λ m w. (subst (λ (s : Start). IsWhole s m app.entry app.modules.items) start w, reads_nothing asked m c.requires)) in
    let before = g.F.Folder.faults c.args.folder.now in
    handed_on _ (IsRefusal asked) (IsRefusal asked) files files before before _ c.in_err-text.field-0.0 c.from_residual-in_err-text.result
    c.from_residual-in_err-text.ensures.1 refl (omega arith) (any_files files (λ m r p. p)) (wide_cause asked files before _ app.entry app.modules.items c.in_err-text.field-0.0 whole c.in_err-text.ensures.wide)

pub returns-in_err-text-clause-counts : goal.returns-in_err-text-clause-counts
returns-in_err-text-clause-counts g c =
    counts_on _ _ _ c.in_err-text.field-0.0 c.from_residual-in_err-text.result c.from_residual-in_err-text.ensures.1 c.in_ok-application.ensures.counts.done
    (wide_counts {X = ℕ} (loaded_size c.in_ok-application.application.modules.items) _ (Err c.in_err-text.field-0.0) c.in_err-text.ensures.wide)

pub returns-clause-gives : goal.returns-clause-gives
returns-clause-gives g c =
    let asked = c.args.request.now in
    let app = c.in_ok-application.application in
    let start : begun (option_map (λ t. t.now) c.start.result) c.skips_refused.result ≡ start_of asked = λ i. begun (c.start.ensures i) (c.skips_refused.ensures i) in
    told (g.F.Folder.files c.args.folder.now) c.in_ok-application.ensures.gives (λ m w.
    let whole : IsWhole (start_of asked) m app.entry app.modules.items = subst (λ (s : Start). IsWhole s m app.entry app.modules.items) start w in
    graph_owed asked m app.entry app.modules.items whole c.in_ok-text.text c.requires c.in_ok-text.ensures.narrow (c.in_ok-text.ensures.text (start_of asked).entry asked.skip_refused m app.entry whole))
