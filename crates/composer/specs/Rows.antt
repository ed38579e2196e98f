-- Sets of values as rows, one for each vertex.
use Rattle.std.specs.Prelude.{ℕ, zero, suc, ◌+◌, ◌*◌, Bool, cond, IsTrue, List, [], slice_index_or, nat_eq}
use Rattle.std.specs.List.{list_any}
use Rattle.composer.specs.declared.system.System.{System}
use Rattle.composer.specs.Solution.{InSolution}

abbrev pub row : List (List ℕ) → ℕ → List ℕ
row rows v = slice_index_or rows v []

-- whether the row has the value
abbrev pub is_in : ℕ → List ℕ → Bool
is_in t xs = list_any (λ x. nat_eq x t) xs

-- whether the vertex has the value
abbrev pub has : List (List ℕ) → ℕ → ℕ → Bool
has rows t v = is_in t (row rows v)

abbrev pub Holds : List (List ℕ) → ℕ → ℕ → Type 0
Holds rows t v = IsTrue (has rows t v)

-- how many numbers below m fail the test; how many pairs of one below n and one below m
abbrev pub gaps : ℕ → (ℕ → Bool) → ℕ
gaps zero p = 0
gaps (suc m) p = cond (p m) 0 1 + gaps m p

abbrev pub room : ℕ → ℕ → (ℕ → ℕ → Bool) → ℕ
room zero m test = 0
room (suc n) m test = gaps m (λ t. test t n) + room n m test

-- the rows hold the solution, and nothing else
pub record IsSolution (a : System ℕ ℕ) (rows : List (List ℕ)) : Type 0 where
  pub found : (t v : ℕ) → Holds rows t v → InSolution a t v
  pub all : (t v : ℕ) → InSolution a t v → Holds rows t v
