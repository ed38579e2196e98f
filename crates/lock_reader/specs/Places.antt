-- Where the entries of a lockfile stand.
use Rattle.std.specs.Prelude.{◌≡◌, ◌<◌, ◌⊎◌, ℕ, true, List, [], length, slice_get, take, Contains, Option, None, Some}
use Rattle.lock_reader.specs.Owner.{owns}
use Rattle.lock_reader.specs.declared.lock.LockEntry.{LockEntry}

-- an entry with the location stands at a place
pub record StandsAt (entries : List LockEntry) (place : ℕ) (location : List ℕ) : Type 0 where
  pub entry : LockEntry
  pub here : slice_get entries place ≡ Some entry
  pub location_is : entry.location ≡ location

-- the entry at the location stands at this place and owns the path, or there is none there that does
abbrev pub OwnsFrom : List LockEntry → List ℕ → List ℕ → Option ℕ → Type 0
OwnsFrom entries location path None = (e : LockEntry) → Contains entries e → e.location ≡ location → owns location path ≡ true → ⊥
OwnsFrom entries location path (Some place) = StandsAt entries place location × (owns location path ≡ true)

-- what owns the path stands above the folder, which is a front of the path
pub record OwnersAbove (entries : List LockEntry) (path folder : List ℕ) : Type 0 where
  pub front : folder ≡ take (length folder) path
  pub above : (e : LockEntry) → Contains entries e → owns e.location path ≡ true → (length e.location < length folder) ⊎ (e.location ≡ [])
