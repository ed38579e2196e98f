-- Tables that lie in one list, each in a window of its own.
use Rattle.std.specs.Prelude.{ℕ, ◌+◌, ◌<◌, ◌≤◌, ◌≡◌, ◌≢◌, ◌⊎◌, List, [], ◌∷◌, ◌++◌, length, slice_index_or, slice_set, take, drop}
use Rattle.set_pool.specs.Sets.{set_at}
use Rattle.set_pool.specs.Tables.{Takes}
use Rattle.set_pool.specs.declared.index.Window.{Window}

-- the tables, how many slots were taken for them, and for how many there is memory
pub record Tables : Type 0 where
  pub tables : List (List ℕ)
  pub used : ℕ
  pub capacity : ℕ

-- what stands in a window
abbrev pub table_in : List ℕ → Window → List ℕ
table_in slots w = take w.length (drop w.start slots)

abbrev pub window : List Window → ℕ → Window
window windows s = slice_index_or windows s (record { start = 0; length = 0 })

-- no two windows share a slot
pub record AreApart (windows : List Window) (n : ℕ) : Type 0 where
  pub within : (s : ℕ) → s < length windows → (window windows s).start + (window windows s).length ≤ n
  pub apart : (s r : ℕ) → s < length windows → r < length windows → s ≢ r
      → ((window windows s).start + (window windows s).length ≤ (window windows r).start) ⊎ ((window windows r).start + (window windows r).length ≤ (window windows s).start)

-- the values came to one of the tables
pub record Puts (s : ℕ) (values : List ℕ) (old new : Tables) : Type 0 where
  pub table : List ℕ
  pub tables : new.tables ≡ slice_set old.tables s table
  pub takes : Takes values (set_at old.tables s) table
  pub same_used : new.used ≡ old.used
  pub same_capacity : new.capacity ≡ old.capacity
