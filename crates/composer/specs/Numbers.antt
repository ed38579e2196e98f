-- Numbers for the vertices and values of an application.
use Rattle.std.specs.Prelude.{ℕ, ◌≤◌, cond, List, [], map, flat_map, length, slice_index_or}
use Rattle.std.specs.List.{enumerate_from}
use Rattle.std.specs.List.Sorted.{IsStrictlySortedBy}
use Rattle.std.specs.declared.cmp.Ordering.{Ordering}
use Rattle.std.specs.Ordering.{nat_cmp, on, then_cmp}
use Rattle.flow_rules.specs.declared.vertex.Vertex.TheVariants.{Elem}
use Rattle.flow_rules.specs.Vertices.{vertex_order}
use Rattle.flow_fold.specs.Pairs.{is_internal}
use Rattle.composer.specs.declared.application.ModuleVertex.{ModuleVertex}
use Rattle.composer.specs.declared.application.Value.{Value}
use Rattle.composer.specs.declared.application.Value.TheVariants.{Native}
use Rattle.composer.specs.declared.system.Callable.{Callable}
use Rattle.composer.specs.declared.system.System.{System}
use Rattle.composer.specs.Application.{at_module}
use Rattle.composer.specs.Rows.{row}

-- vertices go by their modules, and then by their keys
abbrev pub module_vertex_order : ModuleVertex → ModuleVertex → Ordering
module_vertex_order = then_cmp (on (λ v. v.module) nat_cmp) (on (λ v. v.vertex) vertex_order)

-- vertices in order, each once, and so few that 32 bits number them
pub record AreVertices (vertices : List ModuleVertex) : Type 0 where
  pub sorted : IsStrictlySortedBy module_vertex_order vertices
  pub few : length vertices ≤ 4294967295

-- the vertex of a number: what stands there in the list of vertices
abbrev pub vertex_at : List ModuleVertex → ℕ → ModuleVertex
vertex_at vertices n = slice_index_or vertices n (at_module 0 Elem)

-- the value of a number: the function at this place, and past them the native
abbrev pub value_among : List (Callable ModuleVertex Value) → ℕ → Value
value_among functions k = slice_index_or (map (λ (f : Callable ModuleVertex Value). f.value) functions) k Native

abbrev pub value_at : System ModuleVertex Value → ℕ → Value
value_at a = value_among a.functions

-- the values of a numbered vertex, by the numbers in its row, if it is an interface vertex
abbrev pub values_at : List (Callable ModuleVertex Value) → List (List ℕ) → ℕ × ModuleVertex → List (Value × ModuleVertex)
values_at functions rows (n, v) = cond (is_internal v.vertex) [] (map (λ k. (value_among functions k, v)) (row rows n))

-- the same of all vertices
abbrev pub values_of : List (Callable ModuleVertex Value) → List ModuleVertex → List (List ℕ) → List (Value × ModuleVertex)
values_of functions vertices rows = flat_map (values_at functions rows) (enumerate_from 0 vertices)
