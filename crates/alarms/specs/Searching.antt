-- What the search for alarms adds to those found before.
use Rattle.std.specs.Prelude.{◌≡◌, ◌⊎◌, ◌&&◌, ℕ, Bool, true, List, Contains, slice_get, Some}
use Rattle.jam_base.specs.declared.edge.FunctionRef.{FunctionRef}
use Rattle.js_scopes.specs.declared.function.FunctionInfo.{FunctionInfo}
use Rattle.lock_reader.specs.declared.lock.LockEntry.{LockEntry}
use Rattle.advisory_reader.specs.declared.advisory.Advisory.{Advisory}
use Rattle.advisory_reader.specs.declared.advisory.Selector.{Selector}
use Rattle.composer.specs.declared.application.Part.{Part}
use Rattle.alarms.specs.Affected.{names_any}
use Rattle.alarms.specs.Alarms.{IsAlarm}
use Rattle.alarms.specs.Versions.{concerns}
use Rattle.alarms.specs.declared.found.Found.{Found}
use Rattle.alarms.specs.declared.search.Owned.{Owned}

-- some are added to a list: those that P holds of
pub record Adds {X : Type 0} (P : X → Type 0) (old new : List X) : Type 0 where
  pub found : (x : X) → Contains new x → Contains old x ⊎ P x
  pub kept : (x : X) → Contains old x → Contains new x
  pub all : (x : X) → P x → Contains new x

abbrev pub function_at : Owned → ℕ → FunctionRef
function_at owned f = record { «module» = owned.m; function = f }

-- the alarm of the advisory at place i for function number f of the module
abbrev pub alarm_for : Owned → ℕ → ℕ → Found
alarm_for owned i f = record { advisory = i; entry = owned.place; function = function_at owned f }

-- that function can be reached, and one of the selectors names it
pub record HitsOne (reached : FunctionRef → Bool) (i : ℕ) (selectors : List Selector) (owned : Owned) (f : ℕ) (function : FunctionInfo) (found : Found) : Type 0 where
  pub is : found ≡ alarm_for owned i f
  pub hit : (reached (function_at owned f) && names_any owned.inside.now function.name selectors) ≡ true

-- the same of one of the module's functions
pub record Hits (reached : FunctionRef → Bool) (i : ℕ) (selectors : List Selector) (owned : Owned) (found : Found) : Type 0 where
  pub f : ℕ
  pub function : FunctionInfo
  pub here : slice_get owned.functions.now f ≡ Some function
  pub hits : HitsOne reached i selectors owned f function found

-- and of an advisory that speaks of the package
pub record HitsBy (reached : FunctionRef → Bool) (i : ℕ) (advisory : Advisory) (owned : Owned) (found : Found) : Type 0 where
  pub concerned : concerns advisory owned.entry.now ≡ true
  pub hits : Hits reached i advisory.functions owned found

-- and of the advisory at this place
pub record HitsAt (reached : FunctionRef → Bool) (advisories : List Advisory) (owned : Owned) (i : ℕ) (found : Found) : Type 0 where
  pub advisory : Advisory
  pub here : slice_get advisories i ≡ Some advisory
  pub hits : HitsBy reached i advisory owned found

-- and of one of the advisories
pub record HitsAny (reached : FunctionRef → Bool) (advisories : List Advisory) (owned : Owned) (found : Found) : Type 0 where
  pub i : ℕ
  pub at : HitsAt reached advisories owned i found

-- an alarm for a function of module m
pub record OfModule (entries : List LockEntry) (advisories : List Advisory) (parts : List Part) (reached : FunctionRef → Bool) (m : ℕ) (found : Found) : Type 0 where
  pub alarm : IsAlarm entries advisories parts reached found
  pub module_is : found.function.module ≡ m
