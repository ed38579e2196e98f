-- Which vertices other modules see, and the order of vertices and flows.
use Rattle.std.specs.Prelude.{ℕ, Bool, true, false, List, [], ◌∷◌}
use Rattle.std.specs.declared.cmp.Ordering.{Ordering}
use Rattle.std.specs.Ordering.{nat_cmp, on, then_cmp}
use Rattle.std.specs.Cmp.Lexicographic.{slice_cmp}
use Rattle.flow_rules.specs.declared.module.Flow.{Flow}
use Rattle.flow_rules.specs.declared.vertex.Vertex.{Vertex}
use Rattle.flow_rules.specs.declared.vertex.Vertex.TheVariants.{Prop, Elem, Global, Exports, Param, Rest, Ret, Lit, Callee, Arg, More, Recv, Res, Req, Var, Exp}

-- one vertex for the whole application: properties, elements and globals aren't told apart by module
abbrev pub is_shared : Vertex → Bool
is_shared (Prop name) = true
is_shared Elem = true
is_shared (Global name) = true
is_shared _ = false

-- the kind of a vertex, from 0 in the order of the variants, and then its fields; a name by its bytes
abbrev pub vertex_key : Vertex → List ℕ
vertex_key (Prop name) = 0 ∷ name
vertex_key Elem = 1 ∷ []
vertex_key (Global name) = 2 ∷ name
vertex_key Exports = 3 ∷ []
vertex_key (Param function index) = 4 ∷ function ∷ index ∷ []
vertex_key (Rest function) = 5 ∷ function ∷ []
vertex_key (Ret function) = 6 ∷ function ∷ []
vertex_key (Lit function) = 7 ∷ function ∷ []
vertex_key (Callee offset part) = 8 ∷ offset ∷ part ∷ []
vertex_key (Arg offset part index) = 9 ∷ offset ∷ part ∷ index ∷ []
vertex_key (More offset part) = 10 ∷ offset ∷ part ∷ []
vertex_key (Recv offset part) = 11 ∷ offset ∷ part ∷ []
vertex_key (Res offset part) = 12 ∷ offset ∷ part ∷ []
vertex_key (Req offset) = 13 ∷ offset ∷ []
vertex_key (Var local) = 14 ∷ local ∷ []
vertex_key (Exp number) = 15 ∷ number ∷ []

-- the name of a property or a global
abbrev pub name_of : Vertex → List ℕ
name_of (Prop name) = name
name_of (Global name) = name
name_of _ = []

-- the numbers of a vertex in their order, and 0 past them
abbrev pub numbers_of : Vertex → ℕ × ℕ × ℕ
numbers_of (Param function index) = (function, index, 0)
numbers_of (Rest function) = (function, 0, 0)
numbers_of (Ret function) = (function, 0, 0)
numbers_of (Lit function) = (function, 0, 0)
numbers_of (Callee offset part) = (offset, part, 0)
numbers_of (Arg offset part index) = (offset, part, index)
numbers_of (More offset part) = (offset, part, 0)
numbers_of (Recv offset part) = (offset, part, 0)
numbers_of (Res offset part) = (offset, part, 0)
numbers_of (Req offset) = (offset, 0, 0)
numbers_of (Var local) = (local, 0, 0)
numbers_of (Exp number) = (number, 0, 0)
numbers_of _ = (0, 0, 0)

-- vertices go by their keys
abbrev pub vertex_order : Vertex → Vertex → Ordering
vertex_order = on vertex_key (slice_cmp nat_cmp)

-- flows go by where they come from, and then by where they go to
abbrev pub flow_order : Flow → Flow → Ordering
flow_order = then_cmp (on (λ f. f.from) vertex_order) (on (λ f. f.to) vertex_order)
