use Rattle.std.proofs.Common.{◌≡◌, List, ℕ, Option, Some, None, ap, arith, refl, sym, ◌∙◌}
use Rattle.std.specs.FinMap as finite
use Rattle.std.specs.Option.{option_and_then, option_map}
use Rattle.jam_app.specs.AuditFiles.{file_named}
use Rattle.jam_app.proofs.Causes.{any_files, gives_through}
use Rattle.jam_app.proofs.audit.named.file_named.Goals as goal

pub returns-in-Some-clause-gives : goal.returns-in-Some-clause-gives
returns-in-Some-clause-gives g c =
    let files = g.F.Folder.files c.args.folder.now in
    let name = c.args.name.now in
    gives_through (λ m found. option_map (λ v. v.items) found ≡ finite.get m c.in-Some.path) (λ m found. option_map (λ v. v.items) found ≡ file_named m name) (λ m owed. ⊥) (λ m owed. ⊥)
    files files _ _ _ c.file_at.result refl (omega arith)
    (any_files files (λ m. (λ found e. e ∙ sym (ap (λ (o : Option (List ℕ)). option_and_then (finite.get m) o) (sym c.in_ok-path.ensures ∙ c.in-Some.is)), λ owed never. never))) c.file_at.ensures.gives

pub returns-in-None-clause-gives : goal.returns-in-None-clause-gives
returns-in-None-clause-gives g c =
    any_files (g.F.Folder.files c.args.folder.now) (λ m. sym (ap (λ (o : Option (List ℕ)). option_and_then (finite.get m) o) (sym c.in_ok-path.ensures ∙ c.in-None.is)))
