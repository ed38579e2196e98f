-- The state of the worklist: which values were carried, and where the ways lead that were found.
use Rattle.std.specs.Prelude.{ℕ, zero, suc, ◌+◌, ◌*◌, ◌<◌, ◌≤◌, ◌≡◌, ◌⊎◌, Bool, true, false, ◌||◌, cond, IsTrue, List, [], ◌∷◌, ◌++◌, length, map, flat_map, nat_eq, slice_get, slice_index, slice_index_or, slice_set, take, Contains, Option, Some, None}
use Rattle.std.specs.List.{IsDistinct, sum_by}
use Rattle.composer.specs.declared.system.Arrow.{Arrow}
use Rattle.composer.specs.declared.system.Callable.{Callable}
use Rattle.composer.specs.declared.system.CallSite.{CallSite}
use Rattle.composer.specs.declared.system.System.{System}
use Rattle.composer.specs.Rows.{Holds, has, is_in, room, row}
use Rattle.composer.specs.Solution.{InSolution, IsBase, Reason}
use Rattle.composer.specs.Steps.{inputs}
use Rattle.composer.specs.Ways.{all_ways, callback_ways, ways_at_callee}

-- where the ways from a vertex lead
abbrev pub targets_from : ℕ → List (Arrow ℕ) → List ℕ
targets_from v ways = flat_map (λ way. cond (nat_eq way.from v) (way.to ∷ []) []) ways

-- from the callee of each site to the number of the site, and from each of its inputs
abbrev pub callee_places : ℕ → List (CallSite ℕ) → List (Arrow ℕ)
callee_places k [] = []
callee_places k (s ∷ sites) = record { from = s.callee; to = k } ∷ callee_places (suc k) sites

abbrev pub places_of : ℕ → List ℕ → List (Arrow ℕ)
places_of k vs = map (λ v. record { from = v; to = k }) vs

abbrev pub input_places : ℕ → List (CallSite ℕ) → List (Arrow ℕ)
input_places k [] = []
input_places k (s ∷ sites) = places_of k (inputs s) ++ input_places (suc k) sites

-- the first values of a vertex, as many as were carried
abbrev pub first_of : List (List ℕ) → List ℕ → ℕ → List ℕ
first_of rows counts v = take (slice_index counts v) (row rows v)

-- the same, but for one vertex another number of them
abbrev pub noted_of : List (List ℕ) → List ℕ → ℕ → ℕ → ℕ → List ℕ
noted_of rows counts u i v = take (cond (nat_eq v u) i (slice_index counts v)) (row rows v)

-- so many values are there
abbrev pub AreThere : List (List ℕ) → List ℕ → ℕ → ℕ → Type 0
AreThere rows counts u i = (v : ℕ) → cond (nat_eq v u) i (slice_index counts v) ≤ length (row rows v)

abbrev pub flag : List Bool → ℕ → Bool
flag flags i = slice_index_or flags i false

-- the ways that a value makes where it comes to a vertex, which is the callee of some sites and an input of others
abbrev pub callee_ways : System ℕ ℕ → (ℕ → List ℕ) → List ℕ → ℕ → List (Arrow ℕ)
callee_ways a at callers t = flat_map (λ i. ways_at_callee a at t (slice_get a.sites i)) callers

-- the same where it comes to an input, if a native stands at the callee
abbrev pub ways_at_input : System ℕ ℕ → List Bool → ℕ → Option (CallSite ℕ) → List (Arrow ℕ)
ways_at_input a natives t None = []
ways_at_input a natives t (Some s) = cond (flag natives s.callee) (callback_ways a.elem s (slice_get a.functions t)) []

abbrev pub input_ways_of : System ℕ ℕ → List Bool → List ℕ → ℕ → List (Arrow ℕ)
input_ways_of a natives takers t = flat_map (λ i. ways_at_input a natives t (slice_get a.sites i)) takers

-- what is left to do
abbrev pub left : ℕ → ℕ → List (List ℕ) → List ℕ → ℕ
left n m rows pending = 2 * room n m (has rows) + length pending

-- the first i functions and the first j places of the native have their values, nothing else came, and a vertex that has a value is pending
pub record Begun (a : System ℕ ℕ) (n i j : ℕ) (rows : List (List ℕ)) (pending : List ℕ) : Type 0 where
  pub rows_length : length rows ≡ n
  pub found : (t v : ℕ) → Holds rows t v → IsBase a t v
  pub literals : (f : Callable ℕ ℕ) → Contains (take i a.functions) f → Holds rows f.value f.literal
  pub natives : (v : ℕ) → Contains (take j a.native_at) v → Holds rows a.native v
  pub distinct : (v : ℕ) → IsDistinct nat_eq (row rows v)
  pub queued : (v : ℕ) → 0 < length (row rows v) → Contains pending v
  pub below : (v : ℕ) → Contains pending v → v < n

-- each of the values came to each of the vertices, nothing else came, and a vertex that got a value is pending
pub record Offers (ts vs : List ℕ) (old : List (List ℕ)) (old_pending : List ℕ) (new : List (List ℕ)) (new_pending : List ℕ) : Type 0 where
  pub same_length : length new ≡ length old
  pub extends : (v : ℕ) → (more : List ℕ) × (row new v ≡ row old v ++ more)
  pub found : (t v : ℕ) → Holds new t v → Holds old t v ⊎ (IsTrue (is_in t ts) × Contains vs v)
  pub all : (t v : ℕ) → IsTrue (is_in t ts) → Contains vs v → Holds new t v
  pub distinct : ((v : ℕ) → IsDistinct nat_eq (row old v)) → (v : ℕ) → IsDistinct nat_eq (row new v)
  pub still_pending : (v : ℕ) → Contains old_pending v → Contains new_pending v
  pub queued : (v : ℕ) → length (row old v) < length (row new v) → Contains new_pending v
  pub pending_in : (v : ℕ) → Contains new_pending v → Contains old_pending v ⊎ Contains vs v
  pub less_left : (n m : ℕ) → ((t : ℕ) → IsTrue (is_in t ts) → t < m) → ((v : ℕ) → Contains vs v → v < n)
      → left n m new new_pending ≤ left n m old old_pending

-- the values came to one set
pub record Inserts (ts : List ℕ) (v : ℕ) (old new : List (List ℕ)) : Type 0 where
  pub more : List ℕ
  pub rows : new ≡ slice_set old v (row old v ++ more)
  pub holds : (t : ℕ) → is_in t (row old v ++ more) ≡ (is_in t (row old v) || is_in t ts)
  pub distinct : IsDistinct nat_eq (row old v) → IsDistinct nat_eq (row old v ++ more)
  pub grown : 0 < length more → (t : ℕ) × (is_in t (row old v) ≡ false) × (is_in t (row old v ++ more) ≡ true)

-- w of the target, where the way comes from u
abbrev pub from_at : ℕ → (ℕ → ℕ) → Arrow ℕ → ℕ
from_at u w way = cond (nat_eq way.from u) (w way.to) 0

-- the values that were carried stand wherever the ways lead, which are right, and a vertex that has others is pending
pub record Keeps (a : System ℕ ℕ) (n : ℕ) (ways : List (Arrow ℕ)) (rows outs : List (List ℕ)) (carried pending : List ℕ) : Type 0 where
  pub rows_length : length rows ≡ n
  pub outs_length : length outs ≡ n
  pub carried_length : length carried ≡ n
  pub found : (t v : ℕ) → Holds rows t v → InSolution a t v
  pub bases : (t v : ℕ) → IsBase a t v → Holds rows t v
  pub distinct : (v : ℕ) → IsDistinct nat_eq (row rows v)
  pub within : (v : ℕ) → slice_index carried v ≤ length (row rows v)
  pub went : (u v t : ℕ) → Contains (row outs u) v → IsTrue (is_in t (first_of rows carried u)) → Holds rows t v
  pub leads : (u : ℕ) (w : ℕ → ℕ) → sum_by w (row outs u) ≡ sum_by (from_at u w) ways
  pub sound : (way : Arrow ℕ) → Contains ways way → Reason a (InSolution a) way
  pub queued : (v : ℕ) → slice_index carried v < length (row rows v) → Contains pending v
  pub below : (v : ℕ) → Contains pending v → v < n

-- the ways are those that values make which stand so, and it is told where a native does
pub record HasWays (a : System ℕ ℕ) (at : ℕ → List ℕ) (ways : List (Arrow ℕ)) (natives : List Bool) : Type 0 where
  pub same : (w : Arrow ℕ → ℕ) → sum_by w ways ≡ sum_by w (all_ways a at)
  pub told : (v : ℕ) → flag natives v ≡ is_in a.native (at v)

-- the ways came, and over them what was carried before
pub record Adds (a : System ℕ ℕ) (n : ℕ) (found : List (Arrow ℕ)) (carried : List ℕ) (rows outs : List (List ℕ)) (pending : List ℕ) (new after : List (List ℕ)) (later : List ℕ) : Type 0 where
  pub keeps : (ways : List (Arrow ℕ)) → Keeps a n ways rows outs carried pending → Keeps a n (ways ++ found) new after carried later
  pub extends : (v : ℕ) → (more : List ℕ) × (row new v ≡ row rows v ++ more)
  pub same_length : length after ≡ length outs
  pub less_left : left n (a.native + 1) new later ≤ left n (a.native + 1) rows pending

-- between two vertices
pub record Rests (a : System ℕ ℕ) (n : ℕ) (rows outs : List (List ℕ)) (carried pending : List ℕ) (natives : List Bool) : Type 0 where
  pub ways : List (Arrow ℕ)
  pub keeps : Keeps a n ways rows outs carried pending
  pub has_ways : HasWays a (first_of rows carried) ways natives
  pub natives_length : length natives ≡ n

-- while the ways of the values of a vertex are found: so many of its values are noted
pub record Notes (a : System ℕ ℕ) (n : ℕ) (rows outs : List (List ℕ)) (carried pending : List ℕ) (natives : List Bool) (u i : ℕ) : Type 0 where
  pub ways : List (Arrow ℕ)
  pub keeps : Keeps a n ways rows outs carried pending
  pub has_ways : HasWays a (noted_of rows carried u i) ways natives
  pub natives_length : length natives ≡ n
  pub upto : i ≤ slice_index carried u

-- the sum over the numbers from k on, n of them
abbrev pub total : ℕ → ℕ → (ℕ → ℕ) → ℕ
total k zero g = 0
total k (suc n) g = g k + total (suc k) n g

-- how often a value was carried so far
abbrev pub spent : ℕ → List ℕ → List (List ℕ) → ℕ
spent n carried outs = total 0 n (λ v. slice_index carried v * length (row outs v))

-- each value over each way from its vertex
abbrev pub work_of : System ℕ ℕ → (ℕ → List ℕ) → ℕ
work_of a at = sum_by (λ way. length (at way.from)) (all_ways a at)
