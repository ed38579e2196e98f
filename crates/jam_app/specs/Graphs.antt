-- The call graph that is owed.
use Rattle.std.specs.Prelude.{◌≡◌, ℕ, List, [], length, map, Option, Some, None, slice_get, nat_le, if◌then◌else◌}
use Rattle.jam_base.specs.Files.{Files}
use Rattle.jam_base.specs.Place.{place_at}
use Rattle.jam_base.specs.declared.edge.Edge.{Edge}
use Rattle.jam_base.specs.declared.edge.FunctionRef.{FunctionRef}
use Rattle.js_scopes.specs.declared.function.FunctionInfo.{FunctionInfo}
use Rattle.js_scopes.specs.Scopes.{functions_of}
use Rattle.flow_rules.specs.Constraints.{ModuleConstraints}
use Rattle.flow_rules.specs.Flows.{constraints_of}
use Rattle.composer.specs.declared.application.Link.{Link}
use Rattle.composer.specs.Edges.{IsEdgeList}
use Rattle.report_text.specs.declared.shown.PathStep.{PathStep}
use Rattle.report_text.specs.declared.shown.Shown.{Shown}
use Rattle.report_text.specs.Graph.{graph_text_of}
use Rattle.js_tree.specs.Spells.{limit}
use Rattle.jam_app.specs.Entries.{entry_path}
use Rattle.jam_app.specs.Rounds.{LoadedModule, IsApplication, AreLinks}

-- what is printed of a function that no edge can name
abbrev pub nowhere : Shown
nowhere = record { path = []; line = 1; column = 1; name = [] }

-- the text by which places in a module are told: of one that is too large only its start is
abbrev pub place_text : List ℕ → List ℕ
place_text text = if nat_le (length text) limit then text else []

-- a function of a module with this path and text, as it is printed
abbrev pub shown_at : List ℕ → List ℕ → FunctionInfo → Shown
shown_at path text f = record { path = path; line = (place_at text f.start).line; column = (place_at text f.start).column; name = f.name }

abbrev pub shown_in : LoadedModule → FunctionInfo → Shown
shown_in m = shown_at m.path (place_text m.text)

-- the function with this number of a module, as it is printed
abbrev pub shown_number : ℕ → LoadedModule → Shown
shown_number f m = elim (slice_get (functions_of m.tree) f) [ None ↦ nowhere | Some info ↦ shown_in m info ]

-- a function of the modules, as it is printed
abbrev pub shown_function : List LoadedModule → FunctionRef → Shown
shown_function modules f = elim (slice_get modules f.module) [ None ↦ nowhere | Some m ↦ shown_number f.function m ]

-- a call of this function at an offset of a module, as it is printed
abbrev pub shown_call : ℕ → Shown → LoadedModule → PathStep
shown_call offset callee m = record { path = m.path; line = (place_at (place_text m.text) offset).line; column = (place_at (place_text m.text) offset).column; callee = callee }

-- a call edge between functions of the modules, as it is printed
abbrev pub shown_edge : List LoadedModule → Edge → PathStep
shown_edge modules edge = elim (slice_get modules edge.caller.module) [
  | None ↦ record { path = []; line = 1; column = 1; callee = shown_function modules edge.callee }
  | Some m ↦ shown_call edge.offset (shown_function modules edge.callee) m
]

-- what the trees of modules say of their values
abbrev pub constraints_all : List LoadedModule → List ModuleConstraints
constraints_all modules = map (λ (m : LoadedModule). constraints_of m.tree) modules

-- the call graph of an entry over the files: the call edges of the least solution of the constraints of all loaded modules at once
pub record IsGraph (entry : Option (List ℕ)) (files : Files) (path : List ℕ) (modules : List LoadedModule) (edges : List Edge) : Type 0 where
  pub found : entry_path entry files ≡ Some path
  pub application : IsApplication files path modules
  pub links : List Link
  pub links_are : AreLinks files modules links
  pub edges_are : IsEdgeList (constraints_all modules) links edges

-- the text that `graph` owes for the entry over the files: its call edges
pub record IsGraphText (entry : Option (List ℕ)) (files : Files) (text : List ℕ) : Type 0 where
  pub path : List ℕ
  pub modules : List LoadedModule
  pub edges : List Edge
  pub graph : IsGraph entry files path modules edges
  pub text_is : text ≡ graph_text_of (map (shown_edge modules) edges)
