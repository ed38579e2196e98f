-- Sets of numbers as lists, in the order in which the numbers came.
use Rattle.std.specs.Prelude.{ℕ, ◌+◌, ◌/◌, Bool, List, [], ◌∷◌, ◌++◌, length, nat_eq, slice_index_or, slice_set}
use Rattle.std.specs.List.{list_any, sum_by}

-- what contracts see of a pool: its sets, and how many chunks may still begin without memory
pub record Pool : Type 0 where
  pub sets : List (List ℕ)
  pub spare : ℕ

-- a set, which is empty for a number past the sets
abbrev pub set_at : List (List ℕ) → ℕ → List ℕ
set_at sets s = slice_index_or sets s []

-- whether the list has the value
abbrev pub is_in : ℕ → List ℕ → Bool
is_in t xs = list_any (λ x. nat_eq x t) xs

-- the sets with the value last in one of them
abbrev pub with_value : List (List ℕ) → ℕ → ℕ → List (List ℕ)
with_value sets s t = slice_set sets s (set_at sets s ++ t ∷ [])

-- how many chunks hold so many values: a chunk has 15, and the last may have fewer
abbrev pub chunks_for : ℕ → ℕ
chunks_for n = (n + 14) / 15

-- the chunks of all sets
abbrev pub chunks_of : List (List ℕ) → ℕ
chunks_of sets = sum_by (λ xs. chunks_for (length xs)) sets
