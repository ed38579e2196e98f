use Rattle.std.proofs.Common.{◌≡◌, List, ℕ, ap, refl, sym, subst, ◌∙◌}
use Rattle.jam_app.specs.Stops.{StopsForBytes}
use Rattle.jam_app.proofs.FileLemmas.{lock_stop}
use Rattle.jam_app.proofs.audit.lockfile.lock_in.Goals as goal

pub returns-in-Err-clause-stop : goal.returns-in-Err-clause-stop
returns-in-Err-clause-stop c =
    subst (λ (b : List ℕ). StopsForBytes b c.wrong_lock.result) c.as_slice.ensures.value (lock_stop c.as_slice.result.now c.in-Err.fault c.wrong_lock.result c.in-Err.ensures.fault c.wrong_lock.ensures)
