-- Call edges between numbered functions.
use Rattle.std.specs.Prelude.{ℕ, zero, suc, ◌<◌, ◌≤◌, ◌≡◌, List, length, slice_index_or}
use Rattle.jam_base.specs.declared.edge.Edge.{Edge}
use Rattle.reach_path.specs.Numbers.{number_of}

-- the edges, the number of each module's first function, the number of all functions and that of the entry's body
pub record Numbered : Type 0 where
  pub starts : List ℕ
  pub edges : List Edge
  pub nodes : ℕ
  pub begin : ℕ

abbrev pub no_edge : Edge
no_edge = record { caller = record { «module» = 0; function = 0 }; offset = 0; callee = record { «module» = 0; function = 0 } }

abbrev pub edge_at : List Edge → ℕ → Edge
edge_at edges i = slice_index_or edges i no_edge

-- the numbers of the caller and of the callee of the edge at a place
abbrev pub from : Numbered → ℕ → ℕ
from g i = number_of g.starts (edge_at g.edges i).caller

abbrev pub to : Numbered → ℕ → ℕ
to g i = number_of g.starts (edge_at g.edges i).callee

-- each number is one of a function
pub record IsNumbered (g : Numbered) : Type 0 where
  pub few : length g.edges ≤ 4294967295
  pub fits : g.nodes < 4294967296
  pub callers : (i : ℕ) → i < length g.edges → (edge_at g.edges i).caller.module < length g.starts
  pub callees : (i : ℕ) → i < length g.edges → (edge_at g.edges i).callee.module < length g.starts
  pub from_below : (i : ℕ) → i < length g.edges → from g i < g.nodes
  pub to_below : (i : ℕ) → i < length g.edges → to g i < g.nodes
  pub begin_below : g.begin < g.nodes

-- a walk of n edges leads from the entry's body to the function of this number
abbrev pub HasSteps : Numbered → ℕ → ℕ → Type 0
HasSteps g zero v = v ≡ g.begin
HasSteps g (suc n) v = (i : ℕ) × (i < length g.edges) × (to g i ≡ v) × HasSteps g n (from g i)
