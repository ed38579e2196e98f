use Rattle.std.proofs.Common.{◌≡◌, ℕ, map, refl, arith, ◌∙◌}
use Rattle.std.specs.Prelude.{All}
use Rattle.jam_app.specs.Loading.{IsKept}
use Rattle.jam_app.specs.Reading.{HasBad, IsResolved, parsed_of, source_of}
use Rattle.jam_app.proofs.Bad.{no_fault}
use Rattle.jam_app.proofs.Causes.{any_files, counts_of, counts_on, gives_through, handed_on}
use Rattle.jam_app.proofs.Parsed.{all_kept, all_spell, ok_paths, sources_same}
use Rattle.jam_app.proofs.loading.module.modules_of.Goals as goal

pub resolved_round-requires : goal.resolved_round-requires
resolved_round-requires g c = all_spell c.args.skip c.in_ok-parsed.parsed.items c.in_ok-parsed.ensures.ok.1

pub returns-clause-gives : goal.returns-clause-gives
returns-clause-gives g c =
    let files = g.F.Folder.files c.args.folder.now in
    let parsed = c.in_ok-parsed.parsed.items in
    let ok = c.in_ok-parsed.ensures.ok in
    gives_through (λ m modules. (map parsed_of modules.items ≡ parsed) × All (IsResolved m) modules.items) (λ m modules. (map source_of modules.items ≡ c.args.sources.items) × All (IsKept c.args.skip m) modules.items)
    (λ m owed. ⊥) (λ m owed. HasBad c.args.skip c.args.sources.items owed) files files _ _ _ c.resolved_round.result refl (omega arith)
    (any_files files (λ m. (λ made r. (sources_same made.items parsed r.0 ∙ ok.0, all_kept c.args.skip m made.items parsed r.0 ok.1 r.1), λ owed never. absurd never))) c.resolved_round.ensures.gives

pub returns-clause-paths : goal.returns-clause-paths
returns-clause-paths g c =
    ok_paths (λ modules. modules.items) c.resolved_round.result c.in_ok-parsed.parsed.items c.args.sources.items c.in_ok-parsed.ensures.ok.0 c.resolved_round.ensures.paths

pub returns-in_err-parsed-clause-gives : goal.returns-in_err-parsed-clause-gives
returns-in_err-parsed-clause-gives g c =
    let files = g.F.Folder.files c.args.folder.now in
    let faults = g.F.Folder.faults c.args.folder.now in
    handed_on (λ m modules. (map source_of modules.items ≡ c.args.sources.items) × All (IsKept c.args.skip m) modules.items) (λ m owed. HasBad c.args.skip c.args.sources.items owed) (λ m owed. HasBad c.args.skip c.args.sources.items owed) files files faults faults faults c.in_err-parsed.field-0.0 c.from_residual.result
    c.from_residual.ensures.1 refl (omega arith) (any_files files (λ m owed has. has)) (c.in_err-parsed.ensures.err files faults faults)

pub returns-in_err-parsed-clause-counts : goal.returns-in_err-parsed-clause-counts
returns-in_err-parsed-clause-counts g c =
    let n = g.F.Folder.faults c.args.folder.now in
    counts_on n n n c.in_err-parsed.field-0.0 c.from_residual.result c.from_residual.ensures.1 refl
    (counts_of {X = ℕ} n c.in_err-parsed.field-0.0 (no_fault (λ m owed. HasBad c.args.skip c.args.sources.items owed) c.in_err-parsed.field-0.0 c.in_err-parsed.ensures.err n))
