use Rattle.std.proofs.Common.{◌≡◌, List, ℕ, Option, ap, inr, refl, subst, sym, ◌∙◌}
use Rattle.jam_app.specs.AuditFiles.{lock_name, named}
use Rattle.jam_app.proofs.Causes.{told}
use Rattle.jam_app.proofs.audit.lockfile.package_lock.Goals as goal

pub returns-clause-gives : goal.returns-clause-gives
returns-clause-gives g c = told (g.F.Folder.files c.args.folder.now) c.in_ok-found.ensures.gives (λ m e. c.named.ensures.pair ∙ ap (named lock_name) e)
