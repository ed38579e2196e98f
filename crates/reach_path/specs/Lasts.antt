-- The last edge of the path to each function.
use Rattle.std.specs.Prelude.{ℕ, ◌+◌, ◌<◌, ◌≤◌, ◌≡◌, Bool, ◌&&◌, true, cond, List, length, set, slice_index, slice_index_or, nat_lt, nat_eq}
use Rattle.reach_path.specs.declared.lasts.Last.{Last}
use Rattle.reach_path.specs.Graphs.{Numbered, edge_at, from, to}

abbrev pub no_last : Last
no_last = record { caller = 0; offset = 0 }

abbrev pub last_of : List Last → ℕ → Last
last_of lasts v = slice_index_or lasts v no_last

-- a level is the next one behind another; both are kept plus 1
abbrev pub is_next : ℕ → ℕ → Bool
is_next low high = nat_lt 0 low && nat_eq high (low + 1)

-- whether the edge at a place leads one level on
abbrev pub leads_on : Numbered → List ℕ → ℕ → Bool
leads_on g levels i = is_next (slice_index levels (from g i)) (slice_index levels (to g i))

abbrev pub last_at : Numbered → ℕ → Last
last_at g i = record { caller = from g i; offset = (edge_at g.edges i).offset }

-- the last edges with the one at a place, which is kept for its callee where it leads one level on
abbrev pub lasts_with : Numbered → List ℕ → List Last → ℕ → List Last
lasts_with g levels lasts i = cond (leads_on g levels i) (set lasts (to g i) (last_at g i)) lasts

-- the edge at place m is the first at place k or behind it that leads one level on to v
pub record IsFirst (g : Numbered) (levels : List ℕ) (k v m : ℕ) : Type 0 where
  pub from_k : k ≤ m
  pub there : m < length g.edges
  pub callee : to g m ≡ v
  pub on : leads_on g levels m ≡ true
  pub before : (j : ℕ) → k ≤ j → j < m → to g j ≡ v → leads_on g levels j ≡ true → ⊥

-- for each function, of the edges at place k and behind it, the first that leads one level on to it
pub record AreLasts (g : Numbered) (levels : List ℕ) (k : ℕ) (lasts : List Last) : Type 0 where
  pub size : length lasts ≡ g.nodes
  pub callers : (v : ℕ) → v < g.nodes → (last_of lasts v).caller < g.nodes
  pub first : (v i : ℕ) → k ≤ i → i < length g.edges → to g i ≡ v → leads_on g levels i ≡ true
      → (m : ℕ) × IsFirst g levels k v m × (last_of lasts v ≡ last_at g m)
