use Rattle.std.proofs.Common.{◌≡◌, Option, ap, arith, refl, sym, subst, ◌∙◌}
use Rattle.std.specs.Option.{IfSome, option_map}
use Rattle.jam_app.specs.declared.answers.refusal.Refusal.TheVariants as refusal
use Rattle.jam_app.specs.declared.audit.lockfile.LockFile.{LockFile}
use Rattle.jam_app.specs.AuditFiles.{IsLockRefusal, lock_pair, no_lock}
use Rattle.jam_app.specs.Lines.{IsLockName}
use Rattle.jam_app.proofs.Causes.{counts_still, counts_stop, refused_stop, told}
use Rattle.jam_app.proofs.FileLemmas.{lock_given}
use Rattle.jam_app.proofs.audit.lockfile.lock_of.Goals as goal

pub lock_in-requires : goal.lock_in-requires
lock_in-requires g c = subst (λ (o : Option LockFile). IfSome o (λ file. IsLockName file.name.now)) c.in-Some.is c.in_ok-file.ensures.name

pub returns-in-Some-clause-gives : goal.returns-in-Some-clause-gives
returns-in-Some-clause-gives g c =
    lock_given c.in-Some.file.name.now c.in-Some.file.bytes.items (g.F.Folder.files c.args.folder.now) _ _ c.lock_in.result
    (told (g.F.Folder.files c.args.folder.now) c.in_ok-file.ensures.gives (λ m e. sym e ∙ ap (option_map lock_pair) c.in-Some.is)) c.lock_in.ensures.lock c.lock_in.ensures.stop

pub returns-in-Some-clause-counts : goal.returns-in-Some-clause-counts
returns-in-Some-clause-counts g c = counts_still _ _ c.lock_in.result c.in_ok-file.ensures.counts.done

pub returns-in-None-clause-gives : goal.returns-in-None-clause-gives
returns-in-None-clause-gives g c =
    refused_stop IsLockRefusal refusal.NoLock (g.F.Folder.files c.args.folder.now) _ _ c.no_lock.result c.no_lock.ensures
    (told (g.F.Folder.files c.args.folder.now) c.in_ok-file.ensures.gives (λ m e. no_lock (sym e ∙ ap (option_map lock_pair) c.in-None.is)))

pub returns-in-None-clause-counts : goal.returns-in-None-clause-counts
returns-in-None-clause-counts g c = counts_stop _ _ c.no_lock.result c.in_ok-file.ensures.counts.done
