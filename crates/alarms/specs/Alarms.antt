-- The alarms of an application: which functions that advisories name can be reached, in which installed packages.
use Rattle.std.specs.Prelude.{◌≡◌, ◌↔◌, ℕ, Bool, true, false, List, filter, map, Contains, slice_get, Some, ◌&&◌, not, is_some}
use Rattle.std.specs.List.{list_any}
use Rattle.std.specs.List.Sorted.{IsStrictlySortedBy}
use Rattle.std.specs.Ordering.{nat_cmp, on, then_cmp}
use Rattle.std.specs.Str.{bytes_eq}
use Rattle.std.specs.declared.cmp.Ordering.{Ordering}
use Rattle.jam_base.specs.declared.edge.FunctionRef.{FunctionRef}
use Rattle.js_scopes.specs.declared.function.FunctionInfo.{FunctionInfo}
use Rattle.lock_reader.specs.Owner.{IsOwner}
use Rattle.lock_reader.specs.declared.lock.LockEntry.{LockEntry}
use Rattle.advisory_reader.specs.declared.advisory.Advisory.{Advisory}
use Rattle.composer.specs.declared.application.Part.{Part}
use Rattle.alarms.specs.Affected.{inside, names_any}
use Rattle.alarms.specs.Versions.{concerns, version_of}
use Rattle.alarms.specs.declared.found.Found.{Found}

-- an alarm: the advisory speaks of the installed package, which owns the module of the function, the function can be reached, and
-- a selector of the advisory names it
pub record IsAlarm (entries : List LockEntry) (advisories : List Advisory) (parts : List Part) (reached : FunctionRef → Bool) (found : Found) : Type 0 where
  pub advisory : Advisory
  pub advisory_at : slice_get advisories found.advisory ≡ Some advisory
  pub entry : LockEntry
  pub entry_at : slice_get entries found.entry ≡ Some entry
  pub part : Part
  pub part_at : slice_get parts found.function.module ≡ Some part
  pub function : FunctionInfo
  pub function_at : slice_get part.summary.lists.functions found.function.function ≡ Some function
  pub concerned : concerns advisory entry ≡ true
  pub owner : IsOwner entries part.path (Some entry)
  pub reachable : reached found.function ≡ true
  pub named : names_any (inside entry.location part.path) function.name advisory.functions ≡ true

-- alarms go by their advisory, then the package's location, the module's path and the function's number; entries stand by location and modules by path
abbrev pub found_order : Found → Found → Ordering
found_order =
    then_cmp (on (λ x. x.advisory) nat_cmp)
    (then_cmp (on (λ x. x.entry) nat_cmp)
    (then_cmp (on (λ x. x.function.module) nat_cmp) (on (λ x. x.function.function) nat_cmp)))

-- the list has each alarm once, and nothing else, in order
pub record AreAlarms (entries : List LockEntry) (advisories : List Advisory) (parts : List Part) (reached : FunctionRef → Bool) (found : List Found) : Type 0 where
  pub sorted : IsStrictlySortedBy found_order found
  pub alarms_are : (x : Found) → Contains found x ↔ IsAlarm entries advisories parts reached x

-- an installed package has the name of an advisory's package
abbrev pub is_advised : List Advisory → LockEntry → Bool
is_advised advisories entry = list_any (λ advisory. bytes_eq entry.name advisory.package) advisories

-- it has, and no version
abbrev pub lacks_version : List Advisory → LockEntry → Bool
lacks_version advisories entry = not (is_some (version_of entry)) && is_advised advisories entry

-- the locations of these packages
abbrev pub unversioned : List Advisory → List LockEntry → List (List ℕ)
unversioned advisories entries = map (λ e. e.location) (filter (lacks_version advisories) entries)
