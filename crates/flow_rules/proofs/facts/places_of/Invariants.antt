use Rattle.std.proofs.Common.{◌≡◌, ℕ, ◌<◌, length}
use Rattle.flow_rules.specs.Places.{place_or}
use Rattle.flow_rules.proofs.Places.{place_from}
use Rattle.flow_rules.proofs.facts.places_of.Given as goal

abbrev pub invariant-loop-offset : goal.invariant-loop-offset
invariant-loop-offset l = record {
  few : length l.numbered.items < 4294967296;
  places : (q other : ℕ) → place_from 0 l.numbered.items q (place_or l.places.entries q other) ≡ place_from 0 l.fn.numbered.items q other;
}

abbrev pub decreases-loop-offset : goal.decreases-loop-offset
decreases-loop-offset l = length l.numbered.items
