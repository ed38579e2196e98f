-- Which entry of a lockfile a path belongs to (npm manual, "package-lock.json", "packages": locations are paths of package folders).
use Rattle.std.specs.Prelude.{◌≡◌, ℕ, ◌≤◌, Bool, true, false, not, List, [], ◌∷◌, length, slice_get, Option, Some, None, codes}
use Rattle.std.specs.List.{Contains, list_any}
use Rattle.std.specs.Option.{option_and_then}
use Rattle.std.specs.Str.{bytes_eq}
use Rattle.jam_base.specs.Path.{parts}
use Rattle.lock_reader.specs.Texts.{after_front}
use Rattle.lock_reader.specs.declared.lock.LockEntry.{LockEntry}

-- what is left of a path within the folder at a location; the empty location is the application folder
abbrev pub within : List ℕ → List ℕ → Option (List ℕ)
within [] path = Some path
within (b ∷ location) path = option_and_then (after_front (47 ∷ [])) (after_front (b ∷ location) path)

-- a part of the path is `node_modules`, so it belongs to a package further down
abbrev pub enters_modules : List ℕ → Bool
enters_modules path = list_any (λ part. bytes_eq part (codes "node_modules")) (parts path)

abbrev pub is_direct : Option (List ℕ) → Bool
is_direct None = false
is_direct (Some rest) = not (enters_modules rest)

-- a path lies in the package at a location, and in none further down
abbrev pub owns : List ℕ → List ℕ → Bool
owns location path = is_direct (within location path)

-- the owner of a path is an entry whose location owns it, and no longer one does; there is none where none does
abbrev pub IsOwner : List LockEntry → List ℕ → Option LockEntry → Type 0
IsOwner entries path None = (e : LockEntry) → Contains entries e → owns e.location path ≡ false
IsOwner entries path (Some owner) = Contains entries owner × (owns owner.location path ≡ true)
    × ((e : LockEntry) → Contains entries e → owns e.location path ≡ true → length e.location ≤ length owner.location)

-- the owner of a path is the entry at this place
abbrev pub IsOwnerAt : List LockEntry → List ℕ → Option ℕ → Type 0
IsOwnerAt entries path None = IsOwner entries path None
IsOwnerAt entries path (Some place) = (e : LockEntry) × (slice_get entries place ≡ Some e) × IsOwner entries path (Some e)
