use Rattle.std.proofs.Common.{◌≡◌}
use Rattle.serde_json.specs.View.{members_view}
use Rattle.lock_reader.specs.Lock.{entries_of}
use Rattle.lock_reader.proofs.Prepending.{prepend}
use Rattle.lock_reader.proofs.entries.read_entries.Given as goal

abbrev pub invariant-loop-location : goal.invariant-loop-location
invariant-loop-location l = record {
  can : (goal.iterator-loop-location).can_next l.location-iterator;
  finite : (goal.iterator-loop-location).is_finite l.location-iterator;
  read : entries_of (members_view l.packages.entries) ≡ prepend l.entries.items (entries_of (members_view l.location-iterator));
}
