-- Lists that lie in chunks of one region, each chunk with the number of the one before it.
use Rattle.std.specs.Prelude.{ℕ, zero, suc, ◌+◌, ◌*◌, ◌<◌, ◌≤◌, ◌≡◌, List, [], ◌++◌, length, map, slice_index, slice_index_or, take}
use Rattle.std.specs.List.{sum_by}
use Rattle.set_pool.specs.declared.lists.Chunk.{Chunk}
use Rattle.set_pool.specs.declared.lists.End.{End}

-- the lists, and how many chunks may still begin without memory
pub record Lists : Type 0 where
  pub lists : List (List ℕ)
  pub spare : ℕ

abbrev pub chunk : List Chunk → ℕ → Chunk
chunk chunks c = slice_index_or chunks c (record { values = []; before = 0 })

-- the values of n chunks, of which the last is chunk c and has j values
abbrev pub values_of : List Chunk → ℕ → ℕ → ℕ → List ℕ
values_of chunks zero c j = []
values_of chunks (suc n) c j = values_of chunks n (chunk chunks c).before 15 ++ take j (chunk chunks c).values

abbrev pub list_in : List Chunk → End → List ℕ
list_in chunks e = values_of chunks e.count e.chunk e.filled

-- a list that has no chunk
abbrev pub empty : End
empty = record { chunk = 0; count = 0; filled = 15 }

abbrev pub end_at : List End → ℕ → End
end_at ends s = slice_index_or ends s empty

-- n chunks from chunk c on backwards belong to the list, and each comes after the one before it
abbrev pub AreOwned : (ℕ → ℕ) → List Chunk → ℕ → ℕ → ℕ → ℕ → Type 0
AreOwned owner chunks s zero c bound = Unit {0}
AreOwned owner chunks s (suc n) c bound = (c < bound) × (owner c ≡ s) × (length (chunk chunks c).values ≡ 15) × AreOwned owner chunks s n (chunk chunks c).before c

-- the last chunk of a list has a value, and a list with no chunk stands as if its last chunk were full
pub record IsChain (owner : ℕ → ℕ) (chunks : List Chunk) (s : ℕ) (e : End) : Type 0 where
  pub some : 0 < e.filled
  pub few : e.filled ≤ 15
  pub full : e.count ≡ 0 → e.filled ≡ 15
  pub owned : AreOwned owner chunks s e.count e.chunk (length chunks)

-- each chunk belongs to one list, and there is memory for those that are spare
pub record AreChained (chunks : List Chunk) (ends : List End) (spare capacity : ℕ) : Type 0 where
  pub owner : ℕ → ℕ
  pub chains : (s : ℕ) → s < length ends → IsChain owner chunks s (end_at ends s)
  pub total : sum_by (λ (e : End). e.count) ends ≡ length chunks
  pub room : length chunks + spare ≤ capacity
  pub few : length chunks + spare ≤ 4294967295

-- so many first values of the row stand in n chunks, of which the last is chunk c
pub record HasFront (chunks : List Chunk) (s : ℕ) (row : List ℕ) (n c many : ℕ) : Type 0 where
  pub owner : ℕ → ℕ
  pub filled : ℕ
  pub few : filled ≤ 15
  pub within : many + 15 ≤ 15 * n + filled
  pub same : (k : ℕ) → k < many → slice_index (values_of chunks n c filled) k ≡ slice_index row k
  pub owned : AreOwned owner chunks s n c (length chunks)
