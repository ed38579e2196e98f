-- The call graph of an application, with the values that it rests on.
use Rattle.std.specs.Prelude.{◌≡◌, ◌↔◌, ℕ, false, cond, List, [], ◌∷◌, length, map, flat_map, slice_index_or, Contains}
use Rattle.std.specs.List.{enumerate_from, sum_by}
use Rattle.jam_base.specs.declared.edge.Edge.{Edge}
use Rattle.flow_rules.specs.Constraints.{ModuleConstraints}
use Rattle.flow_fold.specs.Pairs.{is_internal}
use Rattle.composer.specs.declared.application.Link.{Link}
use Rattle.composer.specs.declared.application.ModuleVertex.{ModuleVertex}
use Rattle.composer.specs.declared.application.Value.{Value}
use Rattle.composer.specs.Application.{system_of}
use Rattle.composer.specs.Solution.{InSolution}

-- the call edges, how many functions there are, and which values come to which interface vertices
pub record CallGraph : Type 0 where
  pub edges : List Edge
  pub functions : ℕ
  pub values : List (Value × ModuleVertex)

-- how many functions the modules have together
abbrev pub function_count : List ModuleConstraints → ℕ
function_count modules = sum_by (λ c. length c.functions) modules

-- the list has what comes to the interface vertices in the least solution, and nothing else
abbrev pub AreValues : List ModuleConstraints → List Link → List (Value × ModuleVertex) → Type 0
AreValues modules links values =
    (t : Value) (v : ModuleVertex) → Contains values (t, v) ↔ ((is_internal v.vertex ≡ false) × InSolution (system_of modules links) t v)
