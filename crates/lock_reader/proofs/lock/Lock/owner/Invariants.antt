use Rattle.std.proofs.Common.{take}
use Rattle.std.specs.Option.{option_map}
use Rattle.lock_reader.specs.Owner.{IsOwner}
use Rattle.lock_reader.proofs.lock.Lock.owner.Given as goal

abbrev pub invariant-loop-entry : goal.invariant-loop-entry
invariant-loop-entry l = IsOwner (take l.entry-index l.entry-items) l.path (option_map (λ e. e.now) l.owner)
