use Rattle.std.proofs.Common.{◌≡◌, ◌++◌, ℕ, List, drop}
use Rattle.alarms.specs.Packages.{places_from, places_in, places_of}
use Rattle.alarms.proofs.packages.ByPackage.of.Given as goal

abbrev pub invariant-loop-i : goal.invariant-loop-i
invariant-loop-i l = (name : List ℕ) → places_in l.places name ++ places_from l.i name (drop l.i l.advisories) ≡ places_of l.advisories name
