-- What is printed of loaded modules.
use Rattle.std.specs.Prelude.{◌≡◌, ℕ, List, [], map, All, slice_get, unwrap_or, Some, None}
use Rattle.jam_base.specs.Place.{place_at}
use Rattle.jam_base.specs.declared.edge.Edge.{Edge}
use Rattle.jam_base.specs.declared.edge.FunctionRef.{FunctionRef}
use Rattle.jam_base.specs.declared.place.Place.{Place}
use Rattle.js_scopes.specs.Scopes.{functions_of}
use Rattle.report_text.specs.declared.shown.PathStep.{PathStep}
use Rattle.report_text.specs.declared.shown.Shown.{Shown}
use Rattle.jam_app.specs.Graphs.{nowhere, place_text, shown_in}
use Rattle.jam_app.specs.Rounds.{LoadedModule}

-- a line and a column
pub record Spot : Type 0 where
  pub line : ℕ
  pub column : ℕ

abbrev pub spot_of : Place → Spot
spot_of p = record { line = p.line; column = p.column }

-- where an offset of a text is
abbrev pub spot_at : List ℕ → ℕ → Spot
spot_at text offset = spot_of (place_at text offset)

-- what is printed of a module: its path, the text by which its places are told, and its functions
pub record PrintedModule : Type 0 where
  pub path : List ℕ
  pub text : List ℕ
  pub functions : List Shown

abbrev pub printed_of : LoadedModule → PrintedModule
printed_of m = record { path = m.path; text = place_text m.text; functions = map (shown_in m) (functions_of m.tree) }

-- a function of printed modules
abbrev pub function_among : List PrintedModule → FunctionRef → Shown
function_among printed f = elim (slice_get printed f.module) [ None ↦ nowhere | Some m ↦ unwrap_or (slice_get m.functions f.function) nowhere ]

-- a call of this function at an offset of a printed module
abbrev pub call_in : ℕ → Shown → PrintedModule → PathStep
call_in offset callee m = record { path = m.path; line = (place_at m.text offset).line; column = (place_at m.text offset).column; callee = callee }

-- a call edge between functions of printed modules
abbrev pub edge_among : List PrintedModule → Edge → PathStep
edge_among printed edge = elim (slice_get printed edge.caller.module) [
  | None ↦ record { path = []; line = 1; column = 1; callee = function_among printed edge.callee }
  | Some m ↦ call_in edge.offset (function_among printed edge.callee) m
]

-- all edges have their caller in module m
abbrev pub AreOfModule : ℕ → List Edge → Type 0
AreOfModule m edges = All (λ edge. edge.caller.module ≡ m) edges
