-- What a module's flows say of the vertices that other modules can see.
use Rattle.std.specs.Prelude.{◌≡◌, ◌≢◌, Bool, true, false, List, Contains}
use Rattle.flow_rules.specs.declared.module.Flow.{Flow}
use Rattle.flow_rules.specs.declared.vertex.Vertex.{Vertex}
use Rattle.flow_rules.specs.declared.vertex.Vertex.TheVariants.{Var, Exp}

-- its own module alone sees the vertex: a declared name, or the value of an expression; all others are interface vertices
abbrev pub is_internal : Vertex → Bool
is_internal (Var local) = true
is_internal (Exp number) = true
is_internal _ = false

-- a walk of one or more flows from v, whose inner vertices are all internal
pub data Walks (flows : List Flow) (v : Vertex) : Vertex → Type 0 where
  first : {w : Vertex} → Contains flows (record { from = v; to = w }) → Walks flows v w
  onward : {u w : Vertex} → Walks flows v u → is_internal u ≡ true → Contains flows (record { from = u; to = w }) → Walks flows v w

-- a pair of two interface vertices, where such a walk leads from the one to the other
pub record IsPair (flows : List Flow) (v w : Vertex) : Type 0 where
  pub seen_from : is_internal v ≡ false
  pub seen_to : is_internal w ≡ false
  pub apart : v ≢ w
  pub walk : Walks flows v w
