-- What a pool keeps between its calls.
use Rattle.std.specs.Prelude.{ℕ, ◌+◌, ◌*◌, ◌<◌, ◌≤◌, ◌≡◌, true, cond, List, [], length, nat_eq, slice_set}
use Rattle.std.specs.List.{IsDistinct, sum_by}
use Rattle.set_pool.specs.Chains.{Lists}
use Rattle.set_pool.specs.Sets.{chunks_for, chunks_of, is_in, set_at}
use Rattle.set_pool.specs.Tables.{IsTableOf, none}
use Rattle.set_pool.specs.Windows.{Tables}

-- a set of one chunk has no table, and a larger one has a table of its values, with 20 to 40 slots for each of so many chunks
pub data IsIndexed (chunks : ℕ) (values table : List ℕ) : Type 0 where
  few : chunks ≤ 1 → table ≡ [] → IsIndexed chunks values table
  many : IsTableOf values table → 20 * chunks ≤ length table → length table ≤ 40 * chunks → IsIndexed chunks values table

abbrev pub slots_of : List (List ℕ) → ℕ
slots_of tables = sum_by (λ xs. length xs) tables

-- the sets have no value twice, their tables find what they have, and there is memory for the tables of the chunks that may begin
pub record IsPool (lists : Lists) (index : Tables) : Type 0 where
  pub same_length : length index.tables ≡ length lists.lists
  pub distinct : (s : ℕ) → IsDistinct nat_eq (set_at lists.lists s)
  pub below : (s t : ℕ) → is_in t (set_at lists.lists s) ≡ true → t < none
  pub indexed : (s : ℕ) → IsIndexed (chunks_for (length (set_at lists.lists s))) (set_at lists.lists s) (set_at index.tables s)
  pub used : index.used ≤ 2 * slots_of index.tables
  pub room : 80 * (chunks_of lists.lists + lists.spare) ≤ index.capacity

-- how many slots a larger table has than one of so many
abbrev pub wider : ℕ → ℕ
wider n = cond (nat_eq n 0) 64 (2 * n)

-- the table of a set has room for one chunk more
pub record IsWidened (s : ℕ) (values : List ℕ) (old new : Tables) : Type 0 where
  pub table : List ℕ
  pub tables : new.tables ≡ slice_set old.tables s table
  pub indexed : IsIndexed (chunks_for (length values) + 1) values table
  pub used : new.used + 2 * slots_of old.tables ≤ old.used + 2 * slots_of new.tables
  pub kept : old.capacity ≤ new.capacity
