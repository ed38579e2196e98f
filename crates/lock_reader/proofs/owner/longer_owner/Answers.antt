use Rattle.std.proofs.Common.{sym, subst}
use Rattle.std.proofs.lemmas.Bool.Decides.{when_true}
use Rattle.std.specs.Option.{option_map}
use Rattle.lock_reader.specs.Owner.{IsOwner}
use Rattle.lock_reader.proofs.Owners.{IsOwner-first, IsOwner-longer}
use Rattle.lock_reader.proofs.owner.longer_owner.Goals as goal

pub returns-in-None : goal.returns-in-None
returns-in-None c = λ entries h. IsOwner-first entries c.args.entry.now c.args.path.now (rw c.as_str.ensures at (sym c.if-not-owns.ensures)) (subst (λ o. IsOwner entries c.args.path.now (option_map (λ e. e.now) o)) c.in-None.is h)

pub returns-then-is_longer : goal.returns-then-is_longer
returns-then-is_longer c = λ entries h. IsOwner-longer entries c.args.entry.now c.in-Some.longest.now c.args.path.now (rw c.as_str.ensures at (sym c.if-not-owns.ensures))
    (when_true _ _ c.if-is_longer.true c.is_longer.ensures)
    (subst (λ o. IsOwner entries c.args.path.now (option_map (λ e. e.now) o)) c.in-Some.is h)
