-- The levels of functions and the paths to them, over a list of call edges.
use Rattle.std.specs.Prelude.{ℕ, zero, suc, ◌≡◌, ◌≢◌, ◌≤◌, ◌<◌, List, [], ◌∷◌, length, slice_index, reverse, Contains}
use Rattle.std.specs.declared.cmp.Ordering.{Ordering}
use Rattle.std.specs.declared.cmp.Ordering.TheVariants.{Greater}
use Rattle.std.specs.Ordering.{nat_cmp, on, then_cmp}
use Rattle.jam_base.specs.declared.edge.Edge.{Edge}
use Rattle.jam_base.specs.declared.edge.FunctionRef.{FunctionRef}

-- a function of modules that have so many functions each
pub record IsFunction (functions : List ℕ) (f : FunctionRef) : Type 0 where
  pub in_modules : f.module < length functions
  pub in_module : f.function < slice_index functions f.module

-- an edge between functions of these modules
pub record IsBetween (functions : List ℕ) (edge : Edge) : Type 0 where
  pub caller : IsFunction functions edge.caller
  pub callee : IsFunction functions edge.callee

-- the body of a module, which is its function 0
abbrev pub body_of : ℕ → FunctionRef
body_of m = record { «module» = m; function = 0 }

-- a walk of n edges leads from the entry's body to the function
abbrev pub HasWalk : List Edge → ℕ → ℕ → FunctionRef → Type 0
HasWalk edges entry zero f = f ≡ body_of entry
HasWalk edges entry (suc n) f = (edge : Edge) × Contains edges edge × (edge.callee ≡ f) × HasWalk edges entry n edge.caller

-- the level of a function: the least number of edges on a walk to it from the entry's body
pub record IsLevel (edges : List Edge) (entry : ℕ) (f : FunctionRef) (n : ℕ) : Type 0 where
  pub walk : HasWalk edges entry n f
  pub least : (m : ℕ) → HasWalk edges entry m f → n ≤ m

-- a function is reachable where it has a level
abbrev pub IsReachable : List Edge → ℕ → FunctionRef → Type 0
IsReachable edges entry f = (n : ℕ) × IsLevel edges entry f n

-- edges to one function go by the caller's module, the offset in it and then the caller's number
abbrev pub path_order : Edge → Edge → Ordering
path_order = then_cmp (on (λ e. e.caller.module) nat_cmp) (then_cmp (on (λ e. e.offset) nat_cmp) (on (λ e. e.caller.function) nat_cmp))

-- the last edge of the path to a function of level k + 1: the least of all edges to it whose caller has level k
pub record IsLastEdge (edges : List Edge) (entry : ℕ) (f : FunctionRef) (k : ℕ) (edge : Edge) : Type 0 where
  pub there : Contains edges edge
  pub callee : edge.callee ≡ f
  pub nearer : IsLevel edges entry edge.caller k
  pub least : (other : Edge) → Contains edges other → other.callee ≡ f → IsLevel edges entry other.caller k → path_order edge other ≢ Greater

-- the edges of the path to a function from its end: each is the last one to where the edges before it set out
abbrev pub IsWayBack : List Edge → ℕ → FunctionRef → List Edge → Type 0
IsWayBack edges entry f [] = f ≡ body_of entry
IsWayBack edges entry f (edge ∷ back) = IsLastEdge edges entry f (length back) edge × IsWayBack edges entry edge.caller back

-- the path to a function: as many edges as its level, built from its end
pub record IsPath (edges : List Edge) (entry : ℕ) (f : FunctionRef) (path : List Edge) : Type 0 where
  pub level : IsLevel edges entry f (length path)
  pub from_end : IsWayBack edges entry f (reverse path)
