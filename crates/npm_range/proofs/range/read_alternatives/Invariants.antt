use Rattle.std.proofs.Common.{◌+◌, ◌++◌, ℕ, List, length, map, Option, Some, None}
use Rattle.npm_range.specs.Conditions.{Condition, conditions_of}
use Rattle.npm_range.specs.Grammar.{EndsAlternatives, NextAlternative, Reads, ReadsRange, Stretch}
use Rattle.npm_range.proofs.range.read_alternatives.Given as goal

-- what is left to read, with one more for its alternative
abbrev weight : Option Stretch → ℕ
weight None = 0
weight (Some s) = length s.text + 1

abbrev pub invariant-loop-left : goal.invariant-loop-left
invariant-loop-left l = (rest : List (List Condition)) (fault : Option ℕ) → Reads NextAlternative EndsAlternatives l.left rest fault
    → ReadsRange l.text (map (λ v. conditions_of v.items) l.alternatives.items ++ rest) fault

abbrev pub decreases-loop-left : goal.decreases-loop-left
decreases-loop-left l = weight l.left
