-- What a range asks of a version.
use Rattle.std.specs.Prelude.{Bool, true, List, map, IsTrue}
use Rattle.std.specs.List.{list_all, list_any}
use Rattle.std.specs.Ordering.{is_eq, is_ge, is_gt, is_le, is_lt, nat_cmp, ordering_then}
use Rattle.std.specs.declared.cmp.Ordering.{Ordering}
use Rattle.semver.specs.Identifiers.{parts_of}
use Rattle.semver.specs.Order.{pre_cmp}
use Rattle.semver.specs.Parse.{Parts}
use Rattle.npm_range.specs.declared.comparator.Comparator.{Comparator}
use Rattle.npm_range.specs.declared.comparator.Comparator.TheVariants as comparator
use Rattle.npm_range.specs.declared.comparator.Operator.{Operator}
use Rattle.npm_range.specs.declared.comparator.Operator.TheVariants as operator

-- what a piece of a range asks of a version: nothing, or an order against a version
pub data Condition : Type 0 where
  Always : Condition
  Compares : Operator → Parts → Condition

-- the order of two versions: by their numbers, then by their pre-releases; build metadata counts for nothing (SemVer 2.0.0, items 10 and 11)
abbrev pub precedence : Parts → Parts → Ordering
precedence a b = ordering_then (nat_cmp a.0 b.0) (ordering_then (nat_cmp a.1 b.1)
    (ordering_then (nat_cmp a.2 b.2) (pre_cmp a.3 b.3)))

-- the orders that an operator takes (npm manual, "semver", "Ranges")
abbrev pub takes : Operator → Ordering → Bool
takes operator.Less o = is_lt o
takes operator.LessEqual o = is_le o
takes operator.Greater o = is_gt o
takes operator.GreaterEqual o = is_ge o
takes operator.Equal o = is_eq o

-- a version meets a condition
abbrev pub meets : Parts → Condition → Bool
meets version Always = true
meets version (Compares op bound) = takes op (precedence version bound)

-- a range holds for a version: the version meets all the conditions of one alternative
abbrev pub holds : List (List Condition) → Parts → Bool
holds range version = list_any (list_all (meets version)) range

-- the same as a fact
abbrev pub Holds : List (List Condition) → Parts → Type 0
Holds range version = IsTrue (holds range version)

-- what a comparator asks
abbrev pub condition_of : Comparator → Condition
condition_of comparator.Any = Always
condition_of (comparator.Compared op version) = Compares op (parts_of version)

-- what a list of comparators asks
abbrev pub conditions_of : List Comparator → List Condition
conditions_of comparators = map condition_of comparators
