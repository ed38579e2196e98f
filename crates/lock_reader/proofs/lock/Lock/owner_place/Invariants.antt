use Rattle.std.proofs.Common.{length}
use denote.Text.{Utf8}
use denote.Shadow.{shadow}
use Rattle.lock_reader.specs.Places.{OwnersAbove}
use Rattle.lock_reader.proofs.lock.Lock.owner_place.Given as goal

abbrev pub invariant-loop-above : goal.invariant-loop-above
invariant-loop-above l = shadow (Utf8 l.folder) × OwnersAbove l.entries l.path l.folder

abbrev pub decreases-loop-above : goal.decreases-loop-above
decreases-loop-above l = length l.folder
