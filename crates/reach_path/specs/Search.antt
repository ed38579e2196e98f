-- What holds while functions are reached from the entry's body, those of one level after another.
use Rattle.std.specs.Prelude.{ℕ, ◌+◌, ◌<◌, ◌≤◌, ◌≡◌, List, [], ◌∷◌, ◌++◌, length, set, slice_index, nat_eq}
use Rattle.std.specs.List.{count_by}
use Rattle.reach_path.specs.Graphs.{Numbered, from, to, HasSteps}

-- how many functions have no level yet
abbrev pub without_level : List ℕ → ℕ
without_level levels = count_by (λ l. nat_eq l 0) levels

-- where the functions that wait, and those that waited, are `order`, and its first i have had all of their edges followed. A level is kept plus 1; 0 is none
pub record IsSearch (g : Numbered) (i : ℕ) (levels order : List ℕ) : Type 0 where
  pub fits : g.nodes < 4294967296
  pub size : length levels ≡ g.nodes
  pub begun : slice_index levels g.begin ≡ 1
  pub steps : (v n : ℕ) → slice_index levels v ≡ n + 1 → HasSteps g n v
  pub queued : (v : ℕ) → 0 < slice_index levels v → (j : ℕ) × (j < length order) × (slice_index order j ≡ v)
  pub members : (j : ℕ) → j < length order → slice_index order j < g.nodes
  pub leveled : (j : ℕ) → j < length order → 0 < slice_index levels (slice_index order j)
  pub rising : (j k : ℕ) → j ≤ k → k < length order → slice_index levels (slice_index order j) ≤ slice_index levels (slice_index order k)
  pub near : (v : ℕ) → i < length order → slice_index levels v ≤ slice_index levels (slice_index order i) + 1
  pub followed : (j e : ℕ) → j < i → j < length order → e < length g.edges → from g e ≡ slice_index order j
      → (0 < slice_index levels (to g e)) × (slice_index levels (to g e) ≤ slice_index levels (slice_index order j) + 1)
  pub counted : length order + without_level levels ≡ g.nodes
  pub low : (v : ℕ) → slice_index levels v ≤ length order

-- the edges from u at place k and behind it have been followed
abbrev pub IsFollowed : Numbered → ℕ → ℕ → List ℕ → Type 0
IsFollowed g u k levels = (e : ℕ) → k ≤ e → e < length g.edges → from g e ≡ u → 0 < slice_index levels (to g e)

-- the levels, plus 1, of all functions; 0 where there is none
pub record AreLevels (g : Numbered) (levels : List ℕ) : Type 0 where
  pub size : length levels ≡ g.nodes
  pub steps : (v n : ℕ) → slice_index levels v ≡ n + 1 → HasSteps g n v
  pub least : (v n : ℕ) → HasSteps g n v → (0 < slice_index levels v) × (slice_index levels v ≤ n + 1)

-- the function gets the level and waits, unless it has a level
pub record Offered (v level : ℕ) (levels order new_levels new_order : List ℕ) : Type 0 where
  pub had : 0 < slice_index levels v → (new_levels ≡ levels) × (new_order ≡ order)
  pub got : slice_index levels v ≡ 0 → (new_levels ≡ set levels v level) × (new_order ≡ order ++ v ∷ [])
