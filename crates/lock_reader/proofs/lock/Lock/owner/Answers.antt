use Rattle.std.proofs.Common.{List, subst, take, take_all}
use Rattle.std.specs.Option.{option_map}
use Rattle.lock_reader.specs.Owner.{IsOwner}
use Rattle.lock_reader.specs.declared.lock.LockEntry.{LockEntry}
use Rattle.lock_reader.proofs.Owners.{take-read}
use Rattle.lock_reader.proofs.lock.Lock.owner.Goals as goal

pub loop-entry-preserved : goal.loop-entry-preserved
loop-entry-preserved c =
    subst (λ (entries : List LockEntry). IsOwner entries c.as_str-path.result.now (option_map (λ e. e.now) c.longer_owner-owner.result))
    (take-read c.as_slice-entry-items.result.now c.loop-entry.entry-index c.entry-item.result c.loop-entry-test.true c.entry-item.is)
    (c.longer_owner-owner.ensures (take c.loop-entry.entry-index c.as_slice-entry-items.result.now) c.loop-entry.invariant)

pub returns : goal.returns
returns c =
    let whole = take_all c.loop-entry.entry-index c.as_slice-entry-items.result.now c.loop-entry-test.false in
    rw (← c.as_slice-entry-items.ensures, ← c.as_str-path.ensures.text) (rw whole at c.loop-entry.invariant)
