-- Numbers for the functions of all modules: those of a module go behind those of the modules before it.
use Rattle.std.specs.Prelude.{ℕ, ◌+◌, ◌-◌, ◌<◌, ◌≤◌, ◌≡◌, Bool, ◌&&◌, List, [], ◌∷◌, length, slice_index, nat_lt, nat_le}
use Rattle.std.specs.List.{count_by}
use Rattle.std.specs.List.Sorted.{IsNonDecreasing}
use Rattle.jam_base.specs.declared.edge.FunctionRef.{FunctionRef}

-- the number of each module's first function, and last the number of all functions
abbrev pub starts_from : ℕ → List ℕ → List ℕ
starts_from n [] = n ∷ []
starts_from n (count ∷ counts) = n ∷ starts_from (n + count) counts

abbrev pub number_of : List ℕ → FunctionRef → ℕ
number_of starts f = slice_index starts f.module + f.function

-- whether the function is one of the numbered ones
abbrev pub is_numbered : List ℕ → FunctionRef → Bool
is_numbered starts f = nat_lt (f.module + 1) (length starts) && nat_lt (number_of starts f) (slice_index starts (f.module + 1))

-- the module of a number: the last one that begins at it or before
abbrev pub module_at : List ℕ → ℕ → ℕ
module_at starts n = count_by (λ s. nat_le s n) starts - 1

abbrev pub function_at : List ℕ → ℕ → FunctionRef
function_at starts n = record { «module» = module_at starts n; function = n - slice_index starts (module_at starts n) }

-- the numbers begin at 0 and don't fall, and the modules are fewer than 2^32
pub record AreStarts (starts : List ℕ) : Type 0 where
  pub some : 0 < length starts
  pub few : length starts ≤ 4294967295
  pub begin : slice_index starts 0 ≡ 0
  pub rising : IsNonDecreasing starts
