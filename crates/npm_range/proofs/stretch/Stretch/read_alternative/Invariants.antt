use Rattle.std.proofs.Common.{◌++◌, List, length, Option}
use Rattle.std.specs.Prelude.{ℕ}
use Rattle.npm_range.specs.Conditions.{Condition, conditions_of}
use Rattle.npm_range.specs.Grammar.{ReadsAlternative}
use Rattle.npm_range.proofs.stretch.Stretch.read_alternative.Given as goal

abbrev pub invariant-loop-comparators : goal.invariant-loop-comparators
invariant-loop-comparators l = (rest : List Condition) (fault : Option ℕ) → ReadsAlternative l.self rest fault
    → ReadsAlternative l.fn.self (conditions_of l.comparators.items ++ rest) fault

abbrev pub decreases-loop-comparators : goal.decreases-loop-comparators
decreases-loop-comparators l = length l.self.text
