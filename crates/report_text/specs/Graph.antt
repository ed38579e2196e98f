-- The call graph as text.
use Rattle.std.specs.Prelude.{ℕ, List, [], ◌∷◌, ◌++◌, codes}
use Rattle.std.specs.List.{flat_map}
use Rattle.std.specs.Fmt.{decimal}
use Rattle.report_text.specs.declared.shown.PathStep.{PathStep}
use Rattle.report_text.specs.Escape.{escaped}

-- `PATH:LINE:COLUMN`
abbrev pub place_text : List ℕ → ℕ → ℕ → List ℕ
place_text path line column = escaped path ++ codes ":" ++ decimal line ++ codes ":" ++ decimal column

-- a call edge: `PATH:LINE:COLUMN -> PATH:LINE:COLUMN NAME`
abbrev pub step_text : PathStep → List ℕ
step_text step =
    place_text step.path step.line step.column ++ codes " -> "
    ++ place_text step.callee.path step.callee.line step.callee.column ++ codes " " ++ escaped step.callee.name

-- the call graph: each edge on a line, ended by a line feed
abbrev pub graph_text_of : List PathStep → List ℕ
graph_text_of steps = flat_map (λ step. step_text step ++ 10 ∷ []) steps
