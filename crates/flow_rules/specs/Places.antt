-- The places of numbers in a list that are kept.
use Rattle.std.specs.Prelude.{ℕ, Bool, nat_lt, List, Some, None}
use Rattle.std.specs.BTreeMap.{is_at}
use Rattle.std.specs.Map.{lookup}
use Rattle.std.specs.Ordering.{nat_cmp}

-- the places of numbers in a list, and how many there are
pub record Places : Type 0 where
  pub entries : List (ℕ × ℕ)
  pub count : ℕ

-- the place that is kept of the offset, or else what is given
abbrev pub place_or : List (ℕ × ℕ) → ℕ → ℕ → ℕ
place_or entries offset other = elim (lookup (is_at (nat_cmp offset)) entries) [ Some n ↦ n | None ↦ other ]

-- the place of the offset, or how many there are
abbrev pub number_in : Places → ℕ → ℕ
number_in p offset = place_or p.entries offset p.count

-- the number is in the list
abbrev pub is_placed : Places → ℕ → Bool
is_placed p item = nat_lt (number_in p item) p.count
