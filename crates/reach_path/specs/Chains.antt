-- The edges of each caller, as a chain from the last of them to the first.
use Rattle.std.specs.Prelude.{ℕ, ◌+◌, ◌<◌, ◌≤◌, ◌≡◌, List, length, slice_index}
use Rattle.reach_path.specs.Graphs.{Numbered, from}

-- 1 more than the place of the last edge from u before place k, or 0 where there is none
pub record IsLastFrom (g : Numbered) (u k next : ℕ) : Type 0 where
  pub within : next ≤ k
  pub here : (i : ℕ) → next ≡ i + 1 → from g i ≡ u
  pub none_behind : (i : ℕ) → next ≤ i → i < k → from g i ≡ u → ⊥

-- the chains of the edges before place k: where that of each function begins, and how that of each edge goes on
pub record AreChains (g : Numbered) (k : ℕ) (heads nexts : List ℕ) : Type 0 where
  pub heads_length : length heads ≡ g.nodes
  pub nexts_length : length nexts ≡ k
  pub heads_are : (u : ℕ) → u < g.nodes → IsLastFrom g u k (slice_index heads u)
  pub nexts_are : (i : ℕ) → i < k → IsLastFrom g (from g i) i (slice_index nexts i)
