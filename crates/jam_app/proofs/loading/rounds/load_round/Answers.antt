use Rattle.std.proofs.Common.{◌≡◌, ℕ, inl, inr, List, length, map, arith, ap, subst, sym, ◌∙◌}
use Rattle.std.specs.Prelude.{All, Contains}
use Rattle.std.specs.List.{flat_map}
use Rattle.std.specs.Option.{IfSome}
use Rattle.std.proofs.lemmas.List.{length-map}
use Rattle.std.proofs.lemmas.List.Elements.{All-contains}
use Rattle.jam_app.specs.declared.loading.loaded.Loaded.{Loaded}
use Rattle.jam_app.specs.Entries.{begun}
use Rattle.jam_app.specs.Loading.{IsAnalysed, IsKept}
use Rattle.jam_app.specs.Reading.{HasBad, HasExcess, led_from, size_of, source_of}
use Rattle.jam_app.proofs.Causes.{any_files, both_told, counts_on, handed_on, told}
use Rattle.jam_app.proofs.Steps.{refuses_bad, refuses_excess, stands_next}
use Rattle.jam_app.proofs.loading.rounds.load_round.Goals as goal

pub returns-in_err-sources-clause-gives : goal.returns-in_err-sources-clause-gives
returns-in_err-sources-clause-gives g c =
    let files = g.F.Folder.files c.args.folder.now in
    handed_on _ (λ m owed. (earlier : List (List ℕ)) → c.args.progress.now.size ≡ size_of m earlier → HasExcess m earlier c.args.round.items owed) _ files _ _ (g.F.Folder.faults c.args.folder.now) _ c.in_err-sources.field-0.0 c.from_residual.result
    c.from_residual.ensures.1 (λ i. files) (omega arith)
    (any_files files (λ m owed has entry stands. refuses_excess m (begun entry c.args.skip) c.args.progress.now c.args.round.items owed stands has))
    c.in_err-sources.ensures.gives

pub returns-in_err-modules-clause-gives : goal.returns-in_err-modules-clause-gives
returns-in_err-modules-clause-gives g c =
    let files = g.F.Folder.files c.args.folder.now in
    handed_on _ (λ m owed. HasBad c.args.skip c.in_ok-sources.sources.items owed) _ files _ (g.F.Folder.faults c.args.folder.now) _ _ c.in_err-modules.field-0.0 c.from_residual-in_err-modules.result
    c.from_residual-in_err-modules.ensures.1 c.in_ok-sources.ensures.same c.in_ok-sources.ensures.counts.later
    (told files c.in_ok-sources.ensures.gives (λ m read owed has entry stands.
    refuses_bad m (begun entry c.args.skip) c.args.progress.now c.read_round.new.size c.in_ok-sources.sources.items c.args.round.items owed stands read.0 read.1 c.in_ok-sources.ensures.modules c.in_ok-sources.ensures.bytes has))
    c.in_err-modules.ensures.gives

pub returns-clause-gives : goal.returns-clause-gives
returns-clause-gives g c =
    let files = g.F.Folder.files c.args.folder.now in
    let made : IfSome files (λ m. (map source_of c.in_ok-modules.modules.items ≡ c.in_ok-sources.sources.items) × All (IsKept c.args.skip m) c.in_ok-modules.modules.items)
    = subst (λ fs. IfSome fs (λ m. (map source_of c.in_ok-modules.modules.items ≡ c.in_ok-sources.sources.items) × All (IsKept c.args.skip m) c.in_ok-modules.modules.items)) c.in_ok-sources.ensures.same c.in_ok-modules.ensures.gives in
    both_told files c.in_ok-sources.ensures.gives made (λ m read made entry stands.
    stands_next m (begun entry c.args.skip) c.args.progress.now _ c.in_ok-sources.sources.items c.in_ok-modules.modules.items c.args.round.items c.in_ok-paths.paths.items c.in_ok-not_loaded.field-0.items stands read.0 made.0 made.1 read.1
    (record { here = c.in_ok-keep.ensures.here; which = c.in_ok-keep.ensures.which }) (c.in_ok-paths.ensures ∙ ap (flat_map led_from) c.as_slice.ensures.value) c.in_ok-not_loaded.ensures.sorted c.in_ok-not_loaded.ensures.here)

pub returns-clause-held : goal.returns-clause-held
returns-clause-held g c path l is = elim (c.in_ok-keep.ensures.which path l is) [
  | inl old ↦ c.requires.held path l old
  | inr new ↦ (new.0, All-contains IsAnalysed c.in_ok-modules.modules.items l c.in_ok-modules.ensures.analysed new.1)
]

pub returns-in_err-modules-clause-counts : goal.returns-in_err-modules-clause-counts
returns-in_err-modules-clause-counts g c = counts_on _ _ _ c.in_err-modules.field-0.0 c.from_residual-in_err-modules.result c.from_residual-in_err-modules.ensures.1 c.in_ok-sources.ensures.counts.done c.in_err-modules.ensures.counts

pub returns-clause-there : goal.returns-clause-there
returns-clause-there g c path stands =
    let paths = c.in_ok-modules.ensures.paths ∙ c.in_ok-sources.ensures.paths in
    (c.in_ok-keep.ensures.here path).1 (elim stands [ inl old ↦ inl old | inr new ↦ inr (subst (λ (ps : List (List ℕ)). Contains ps path) (sym paths) new) ])

pub returns-clause-few : goal.returns-clause-few
returns-clause-few g c =
    let paths = c.in_ok-modules.ensures.paths ∙ c.in_ok-sources.ensures.paths in
    let long : length c.in_ok-modules.modules.items ≡ length c.args.round.items = sym (length-map c.in_ok-modules.modules.items (λ (l : Loaded). l.path)) ∙ ap length paths in
    omega (arith, c.requires.few, c.in_ok-keep.ensures.few, c.in_ok-sources.ensures.counted, long)
