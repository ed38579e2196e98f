-- What a lockfile says (npm manual, "package-lock.json", lockfileVersion 2 and 3).
use Rattle.std.specs.Prelude.{ℕ, ◌||◌, ◌==◌, List, [], ◌∷◌, Option, Some, None, Result, Ok, Err, codes, is_some, map, if◌then◌else◌}
use Rattle.std.specs.Cmp.Lexicographic.{slice_cmp}
use Rattle.std.specs.List.Sorted.{IsStrictlySortedBy}
use Rattle.std.specs.Ordering.{nat_cmp}
use Rattle.std.specs.Option.{option_and_then, option_map, unwrap_or}
use Rattle.serde_json.specs.Data.{Data, Members, no_members, member}
use Rattle.serde_json.specs.Find.{as_number, as_object, as_str, as_u64, get}
use Rattle.json_value.specs.Bytes.{json_of}
use Rattle.lock_reader.specs.Texts.{after_last}
use Rattle.lock_reader.specs.declared.fault.LockFault.{LockFault}
use Rattle.lock_reader.specs.declared.fault.LockFault.TheVariants as fault
use Rattle.lock_reader.specs.declared.lock.LockEntry.{LockEntry}

-- ---- entries

-- the name of a package: the one that the entry gives, else what stands after the last `node_modules/` of its location, else the empty text
abbrev pub name_of : List ℕ → Option (List ℕ) → List ℕ
name_of location given = unwrap_or given (unwrap_or (after_last (codes "node_modules/") location) [])

-- a member that is a text where it is there at all
abbrev pub optional_text : Option Data → Option (Option (List ℕ))
optional_text None = Some None
optional_text (Some d) = option_map Some (as_str d)

-- both of two answers
abbrev pub both : {A B : Type 0} → Option A → Option B → Option (A × B)
both (Some a) (Some b) = Some (a, b)
both (Some a) None = None
both None b = None

-- the `name` and the `version` of an object, each a text where it is there
unfoldable pub texts_of : Data → Option (Option (List ℕ) × Option (List ℕ))
texts_of d =
    if is_some (as_object d) then both (optional_text (get (codes "name") d)) (optional_text (get (codes "version") d))
    else None

-- the entry at a location that a value describes
unfoldable pub entry_of : List ℕ → Data → Option LockEntry
entry_of location d =
    option_map (λ texts. record { location = location; name = name_of location texts.0; version = texts.1 }) (texts_of d)

-- one entry before others; the first location, in the order of bytes, that describes none is the fault
abbrev pub with_entry : List ℕ → Option LockEntry → Result (List LockEntry) LockFault → Result (List LockEntry) LockFault
with_entry location None rest = Err (fault.Shape location)
with_entry location (Some entry) (Ok entries) = Ok (entry ∷ entries)
with_entry location (Some entry) (Err f) = Err f

-- the entries that members describe; members stand in the order of their keys' bytes
unfoldable pub entries_of : Members → Result (List LockEntry) LockFault
entries_of no_members = Ok []
entries_of (member location d ms) = with_entry location (entry_of location d) (entries_of ms)

-- ---- the file

-- the version of the file's format
unfoldable pub version_of : Data → Option ℕ
version_of d = option_and_then as_u64 (option_and_then as_number (get (codes "lockfileVersion") d))

-- the members of `packages`
unfoldable pub packages_of : Data → Option Members
packages_of d = option_and_then as_object (get (codes "packages") d)

abbrev pub entries_from : Option Members → Result (List LockEntry) LockFault
entries_from None = Err (fault.Shape (codes "packages"))
entries_from (Some packages) = entries_of packages

-- the entries in the packages of a lockfile of this version
abbrev pub lock_of_version : Option ℕ → Option Members → Result (List LockEntry) LockFault
lock_of_version None packages = Err (fault.Shape (codes "lockfileVersion"))
lock_of_version (Some n) packages = if n == 2 || n == 3 then entries_from packages else Err (fault.Version n)

-- the entries that a value describes, or what is wrong with it
unfoldable pub lock_in : Data → Result (List LockEntry) LockFault
lock_in d = if is_some (as_object d) then lock_of_version (version_of d) (packages_of d) else Err (fault.Shape [])

abbrev pub lock_in_json : Option Data → Result (List LockEntry) LockFault
lock_in_json None = Err fault.NotJson
lock_in_json (Some d) = lock_in d

-- the entries of a lockfile, or the one fault of its bytes
abbrev pub lock_of : List ℕ → Result (List LockEntry) LockFault
lock_of bytes = lock_in_json (json_of bytes)

-- the locations ascend by their bytes, so each stands once
unfoldable pub IsAscending : List LockEntry → Type 0
IsAscending entries = IsStrictlySortedBy (slice_cmp nat_cmp) (map (λ e. e.location) entries)
