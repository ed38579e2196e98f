use Rattle.std.proofs.Common.{◌≡◌, Bool, Option, ℕ, List, Some, arith, refl}
use Rattle.std.specs.Option.{option_map}
use Rattle.jam_app.specs.Entries.{begun, entry_path}
use Rattle.jam_app.specs.Loading.{IsWhole}
use Rattle.jam_app.specs.Refusals.{IsLoadRefusal}
use Rattle.jam_app.proofs.Causes.{any_files, counts_through, gives_through, handed_on, told}
use Rattle.jam_app.proofs.loading.rounds.load.Goals as goal

pub returns-clause-gives : goal.returns-clause-gives
returns-clause-gives g c =
    let files = g.F.Folder.files c.args.folder.now in
    let entry : Option (List ℕ) = option_map (λ t. t.now) c.args.entry in
    let skip : Bool = c.args.skip in
    let first : List ℕ = c.in_ok-first.first in
    gives_through (λ m app. (asked : Option (List ℕ)) → entry_path asked m ≡ Some first → IsWhole (begun asked skip) m app.entry app.modules.items) (λ m app. IsWhole (begun entry skip) m app.entry app.modules.items)
    (λ m owed. (asked : Option (List ℕ)) → entry_path asked m ≡ Some first → IsLoadRefusal (begun asked skip) m owed) (IsLoadRefusal (begun entry skip)) files _ _ _ _ c.load_from.result c.in_ok-first.ensures.same c.in_ok-first.ensures.counts.later
    (told files c.in_ok-first.ensures.gives (λ m found. (λ app whole. whole entry found, λ owed refused. refused entry found))) c.load_from.ensures.gives

pub returns-clause-counts : goal.returns-clause-counts
returns-clause-counts g c = counts_through _ _ _ c.load_from.result c.in_ok-first.ensures.counts.done c.load_from.ensures.counts

pub returns-in_err-first-clause-gives : goal.returns-in_err-first-clause-gives
returns-in_err-first-clause-gives g c =
    let files = g.F.Folder.files c.args.folder.now in
    let entry = option_map (λ t. t.now) c.args.entry in
    handed_on _ (λ m owed. (skip : Bool) → IsLoadRefusal (begun entry skip) m owed) _ files _ _ _ _ c.in_err-first.field-0.0 c.from_residual.result
    c.from_residual.ensures.1 refl (omega arith) (any_files files (λ m owed refused. refused c.args.skip)) c.in_err-first.ensures.gives
