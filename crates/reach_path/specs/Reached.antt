-- What is known of all functions: which of them are reachable, and the path to each.
use Rattle.std.specs.Prelude.{ℕ, zero, suc, ◌≡◌, ◌<◌, ◌≤◌, ◌↔◌, cond, List, [], ◌∷◌, length, reverse, slice_index, Option, Some, None, IsTrue, is_some, nat_lt, Contains}
use Rattle.std.specs.List.{count_by}
use Rattle.std.specs.List.Sorted.{IsStrictlySortedBy}
use Rattle.std.specs.declared.cmp.Ordering.{Ordering}
use Rattle.std.specs.Ordering.{nat_cmp, on, then_cmp}
use Rattle.jam_base.specs.declared.edge.Edge.{Edge}
use Rattle.jam_base.specs.declared.edge.FunctionRef.{FunctionRef}
use Rattle.reach_path.specs.declared.lasts.Last.{Last}
use Rattle.reach_path.specs.Lasts.{last_of}
use Rattle.reach_path.specs.Levels.{IsPath, IsReachable}
use Rattle.reach_path.specs.Numbers.{AreStarts, function_at, is_numbered, number_of}

-- by the functions' numbers: `starts` says how they are numbered, `levels` has their levels plus 1 and 0 where there is none, `lasts` the last edges of their paths
pub record Reached : Type 0 where
  pub starts : List ℕ
  pub levels : List ℕ
  pub lasts : List Last

-- the last edge of the path to a number
abbrev pub edge_into : Reached → ℕ → Edge
edge_into r v = record { caller = function_at r.starts (last_of r.lasts v).caller; offset = (last_of r.lasts v).offset; callee = function_at r.starts v }

-- the last n edges of the path to a number, the last one first
abbrev pub way_back : Reached → ℕ → ℕ → List Edge
way_back r zero v = []
way_back r (suc n) v = edge_into r v ∷ way_back r n (last_of r.lasts v).caller

-- the path to a number with this level plus 1
abbrev pub path_at : Reached → ℕ → ℕ → Option (List Edge)
path_at r zero v = None
path_at r (suc n) v = Some (reverse (way_back r n v))

-- the path to a function, if it is reachable
abbrev pub path_to : Reached → FunctionRef → Option (List Edge)
path_to r f = cond (is_numbered r.starts f) (path_at r (slice_index r.levels (number_of r.starts f)) (number_of r.starts f)) None

-- how many functions are reachable
abbrev pub count_of : Reached → ℕ
count_of r = count_by (λ l. nat_lt 0 l) r.levels

-- functions go by their modules, and then by their numbers there
abbrev pub function_order : FunctionRef → FunctionRef → Ordering
function_order = then_cmp (on (λ f. f.module) nat_cmp) (on (λ f. f.function) nat_cmp)

-- the list has each reachable function once, and nothing else
pub record AreReachable (edges : List Edge) (entry : ℕ) (all : List FunctionRef) : Type 0 where
  pub sorted : IsStrictlySortedBy function_order all
  pub members : (f : FunctionRef) → Contains all f ↔ IsReachable edges entry f

-- it says of these edges and this entry which functions are reachable, how many these are, and the path to each
pub record IsReachOf (edges : List Edge) (entry : ℕ) (r : Reached) : Type 0 where
  pub has : (f : FunctionRef) → IsTrue (is_some (path_to r f)) ↔ IsReachable edges entry f
  pub path : (f : FunctionRef) (path : List Edge) → path_to r f ≡ Some path → IsPath edges entry f path
  pub count : (all : List FunctionRef) × AreReachable edges entry all × (count_of r ≡ length all)

-- the lists fit together
pub record IsKept (r : Reached) : Type 0 where
  pub starts : AreStarts r.starts
  pub within : (m : ℕ) → slice_index r.starts m ≤ length r.levels
  pub fits : length r.levels < 4294967296
  pub same : length r.lasts ≡ length r.levels
  pub callers : (v : ℕ) → v < length r.levels → (last_of r.lasts v).caller < length r.levels
