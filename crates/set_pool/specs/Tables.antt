-- Tables in which a value is found by a walk from its home, up to the first free slot.
use Rattle.std.specs.Prelude.{ℕ, zero, suc, ◌+◌, ◌-◌, ◌*◌, ◌/◌, ◌%◌, ◌^◌, ◌<◌, ◌≤◌, ◌≡◌, ◌≢◌, false, ◌||◌, cond, List, length, nat_eq, slice_index_or, bit_and}
use Rattle.std.specs.List.{sum_by}
use Rattle.set_pool.specs.Sets.{is_in}

-- what a free slot has: no value is as large
abbrev pub none : ℕ
none = 4294967295

abbrev pub slot : List ℕ → ℕ → ℕ
slot table p = slice_index_or table p 0

-- the place at which the walk of a value begins in a table of so many slots
unfoldable pub home_of : ℕ → ℕ → ℕ
home_of n t = bit_and (t * 11400714819323198485 % 2 ^ 64 / 2 ^ 32) (n - 1)

-- the place after this one, and the first after the last
abbrev pub next : ℕ → ℕ → ℕ
next n p = cond (nat_eq (suc p) n) 0 (suc p)

-- the place after so many steps
abbrev pub walk : ℕ → ℕ → ℕ → ℕ
walk n h zero = h
walk n h (suc d) = next n (walk n h d)

-- the walk leads to the place over slots that are taken
pub record LeadsTo (table : List ℕ) (h p : ℕ) : Type 0 where
  pub steps : ℕ
  pub ends : walk (length table) h steps ≡ p
  pub taken : (e : ℕ) → e < steps → slot table (walk (length table) h e) ≢ none

-- each value is found from its home
abbrev pub IsProbed : List ℕ → Type 0
IsProbed table = (p : ℕ) → p < length table → slot table p ≢ none → LeadsTo table (home_of (length table) (slot table p)) p

-- how many slots are taken
abbrev pub taken : List ℕ → ℕ
taken table = sum_by (λ x. cond (nat_eq x none) 0 1) table

-- the free slot for a value that the table hasn't
pub record IsSpot (table : List ℕ) (t p : ℕ) : Type 0 where
  pub within : p < length table
  pub free : slot table p ≡ none
  pub absent : is_in t table ≡ false
  pub way : LeadsTo table (home_of (length table) t) p

-- the table has the values of the list, and no others
pub record IsTableOf (values table : List ℕ) : Type 0 where
  pub probed : IsProbed table
  pub same : (t : ℕ) → t < none → is_in t table ≡ is_in t values
  pub few : taken table ≤ length values

-- the values came to the table
pub record Takes (values old new : List ℕ) : Type 0 where
  pub same_length : length new ≡ length old
  pub probed : IsProbed old → IsProbed new
  pub same : (t : ℕ) → t < none → is_in t new ≡ (is_in t old || is_in t values)
  pub few : taken new ≤ taken old + length values
