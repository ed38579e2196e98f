-- Versions of installed packages (SemVer 2.0.0), and the ranges of advisories that hold for them.
use Rattle.std.specs.Prelude.{◌&&◌, ℕ, Bool, true, false, List, Option, Some, None, Result, Ok, Err}
use Rattle.std.specs.Option.{option_and_then}
use Rattle.std.specs.Str.{bytes_eq}
use Rattle.semver.specs.Parse.{Parts, version_parts}
use Rattle.semver.specs.declared.error.Error.{Error}
use Rattle.npm_range.specs.Conditions.{Condition, holds}
use Rattle.lock_reader.specs.declared.lock.LockEntry.{LockEntry}
use Rattle.advisory_reader.specs.declared.advisory.Advisory.{Advisory}

-- what was read, if anything was
abbrev pub if_read : Result Parts Error → Option Parts
if_read (Ok parts) = Some parts
if_read (Err error) = None

-- the version that a text spells, if it spells one
abbrev pub version_in : List ℕ → Option Parts
version_in text = if_read (version_parts text)

-- the version of an installed package, where the lockfile gives one and it is one
abbrev pub version_of : LockEntry → Option Parts
version_of entry = option_and_then version_in entry.version

-- the range holds for the version, where there is one
abbrev pub holds_for : List (List Condition) → Option Parts → Bool
holds_for range None = false
holds_for range (Some version) = holds range version

-- the advisory speaks of the installed package: it has that package's name, and its range holds for the version
abbrev pub concerns : Advisory → LockEntry → Bool
concerns advisory entry = bytes_eq entry.name advisory.package && holds_for advisory.range (version_of entry)
