use Rattle.std.proofs.Common.{◌≡◌, ap, arith, refl, sym, ◌∙◌}
use Rattle.std.specs.Option.{option_map}
use Rattle.jam_app.specs.AuditFiles.{lock_file, lock_pair, package_lock}
use Rattle.jam_app.proofs.Causes.{counts_through, gives_through, told}
use Rattle.jam_app.proofs.FileLemmas.{shrinkwrap_absent, shrinkwrap_there}
use Rattle.jam_app.proofs.audit.lockfile.lock_file.Goals as goal

pub returns-in-Some-clause-gives : goal.returns-in-Some-clause-gives
returns-in-Some-clause-gives g c =
    told (g.F.Folder.files c.args.folder.now) c.in_ok-bytes.ensures.gives (λ m e. sym (shrinkwrap_there m c.in-Some.bytes.items (sym e ∙ ap (option_map (λ v. v.items)) c.in-Some.is)))

pub returns-in-None-clause-gives : goal.returns-in-None-clause-gives
returns-in-None-clause-gives g c =
    let files = g.F.Folder.files c.args.folder.now in
    gives_through (λ m found. option_map lock_pair found ≡ package_lock m) (λ m found. option_map lock_pair found ≡ lock_file m) (λ m owed. ⊥) (λ m owed. ⊥)
    files _ _ _ _ c.package_lock.result c.in_ok-bytes.ensures.same c.in_ok-bytes.ensures.counts.later
    (told files c.in_ok-bytes.ensures.gives (λ m e. (λ found p. p ∙ sym (shrinkwrap_absent m (sym e ∙ ap (option_map (λ v. v.items)) c.in-None.is)), λ owed never. never))) c.package_lock.ensures.gives

pub returns-in-None-clause-counts : goal.returns-in-None-clause-counts
returns-in-None-clause-counts g c = counts_through _ _ _ c.package_lock.result c.in_ok-bytes.ensures.counts.done c.package_lock.ensures.counts
