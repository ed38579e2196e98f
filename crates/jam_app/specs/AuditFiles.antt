-- The files that `audit` reads beside the application: the lockfile and the advisories.
use Rattle.std.specs.Prelude.{◌≡◌, ℕ, List, Option, Some, None, Ok, Err, codes}
use Rattle.std.specs.Option.{option_and_then, option_map}
use Rattle.std.specs.FinMap as finite
use Rattle.jam_base.specs.Files.{Files}
use Rattle.jam_base.specs.Path.{path_of}
use Rattle.lock_reader.specs.Lock as locks
use Rattle.lock_reader.specs.declared.fault.LockFault.{LockFault}
use Rattle.lock_reader.specs.declared.lock.LockEntry.{LockEntry}
use Rattle.advisory_reader.specs.Advisories.{IsFault, SpellsAdvisories}
use Rattle.advisory_reader.specs.declared.advisory.Advisory.{Advisory}
use Rattle.advisory_reader.specs.declared.fault.AdvisoryFault.{AdvisoryFault}
use Rattle.jam_app.specs.declared.answers.refusal.Refusal.{Refusal}
use Rattle.jam_app.specs.declared.answers.refusal.Refusal.TheVariants as refusal
use Rattle.jam_app.specs.declared.audit.lockfile.LockFile.{LockFile}

-- the bytes of the file that a text names in the application folder
abbrev pub file_named : Files → List ℕ → Option (List ℕ)
file_named files name = option_and_then (finite.get files) (path_of name)

-- ---- the lockfile

abbrev pub shrinkwrap : List ℕ
shrinkwrap = codes "npm-shrinkwrap.json"

abbrev pub lock_name : List ℕ
lock_name = codes "package-lock.json"

-- a name and the bytes of the file
abbrev pub named : List ℕ → Option (List ℕ) → Option (List ℕ × List ℕ)
named name bytes = option_map (λ b. (name, b)) bytes

abbrev pub package_lock : Files → Option (List ℕ × List ℕ)
package_lock files = named lock_name (file_named files lock_name)

-- the lockfile's name and bytes: `npm-shrinkwrap.json` where that is there, else `package-lock.json` (npm manual, "npm-shrinkwrap.json")
abbrev pub lock_file : Files → Option (List ℕ × List ℕ)
lock_file files = elim (file_named files shrinkwrap) [ None ↦ package_lock files | Some bytes ↦ Some (shrinkwrap, bytes) ]

abbrev pub lock_pair : LockFile → List ℕ × List ℕ
lock_pair file = (file.name.now, file.bytes.items)

-- the lockfile has these entries
pub record HasLock (files : Files) (entries : List LockEntry) : Type 0 where
  pub name : List ℕ
  pub bytes : List ℕ
  pub file : lock_file files ≡ Some (name, bytes)
  pub read : locks.lock_of bytes ≡ Ok entries

-- no lockfile, or what is wrong with it
pub data IsLockRefusal (files : Files) : Refusal → Type 0 where
  no_lock : lock_file files ≡ None → IsLockRefusal files refusal.NoLock
  lock : (name bytes : List ℕ) (fault : LockFault) → lock_file files ≡ Some (name, bytes) → locks.lock_of bytes ≡ Err fault → IsLockRefusal files (refusal.Lock fault)

-- ---- the advisories

-- the file of this name has these advisories
pub record HasAdvisories (files : Files) (name : List ℕ) (advisories : List Advisory) : Type 0 where
  pub bytes : List ℕ
  pub file : file_named files name ≡ Some bytes
  pub spelled : SpellsAdvisories bytes advisories

-- no such file, or what is wrong with it
pub data IsAdvisoryRefusal (files : Files) (name : List ℕ) : Refusal → Type 0 where
  no_advisories : file_named files name ≡ None → IsAdvisoryRefusal files name refusal.NoAdvisories
  advisory : (bytes : List ℕ) (fault : AdvisoryFault) → file_named files name ≡ Some bytes → IsFault bytes fault → IsAdvisoryRefusal files name (refusal.Advisory fault)
