-- What a step of the work answers.
use Rattle.std.specs.Prelude.{◌≡◌, ◌⊎◌, ℕ, ◌<◌, ◌≤◌, List, length, Result, Ok, Err, IfErr, OnOk, Option, IfSome}
use Rattle.js_tree.specs.Spells.{limit}
use Rattle.jam_base.specs.Causes.{Rose}
use Rattle.jam_base.specs.Files.{Files}
use Rattle.jam_app.specs.declared.answers.stop.Stop.{Stop}
use Rattle.jam_app.specs.declared.answers.stop.Stop.TheVariants.{ReadFault, OutOfMemory, Refused}
use Rattle.jam_app.specs.declared.answers.refusal.Refusal.{Refusal}
use Rattle.jam_app.specs.declared.answers.refusal.Refusal.TheVariants as refusal
use Rattle.jam_app.specs.declared.loading.text.Bad.{Bad}
use Rattle.jam_app.specs.declared.loading.text.Bad.TheVariants as bad
use Rattle.jam_app.specs.Texts.{IsBad}
use Rattle.jam_app.specs.declared.answers.line.Line.{Line}
use Rattle.jam_app.specs.Lines.{TellsRefusal}
use Rattle.composer.specs.Sizes.{size_limit}
use Rattle.lock_reader.specs.Lock.{lock_of}
use Rattle.advisory_reader.specs.Advisories.{IsFault}
use Rattle.lock_reader.specs.declared.fault.LockFault.{LockFault}
use Rattle.lock_reader.specs.declared.fault.LockFault.TheVariants as lock_fault
use Rattle.advisory_reader.specs.declared.fault.AdvisoryFault.{AdvisoryFault}
use Rattle.advisory_reader.specs.declared.fault.AdvisoryFault.TheVariants as advisory_fault
use Rattle.jam_app.specs.declared.audit.report.Output.{Output}
use Rattle.jam_app.specs.Outcomes.{IsOwedText, IsUnrefused}
use Rattle.word_reader.specs.Requests.{Asked}
use Rattle.jam_app.specs.Refusals.{IsConstructAt, IsRefusedAt}

-- a stop has its cause: the count rose, or the files give the refusal, which the line says
abbrev pub HasStopCause : (Files → Refusal → Type 0) → Option Files → ℕ → ℕ → Stop → Type 0
HasStopCause refused files before now ReadFault = Rose before now
HasStopCause refused files before now OutOfMemory = Unit {0}
HasStopCause refused files before now (Refused refusal line) = IfSome files (λ m. refused m refusal) × TellsRefusal refusal line

-- only a fault of the folder changes its count
abbrev pub KeepsCount : ℕ → ℕ → Stop → Type 0
KeepsCount before now ReadFault = Unit {0}
KeepsCount before now OutOfMemory = now ≡ before
KeepsCount before now (Refused refusal line) = now ≡ before

-- what a step says of the count: it never falls, and only a fault changes it
pub record CountsFaults {X : Type 0} (before now : ℕ) (result : Result X Stop) : Type 0 where
  pub later : before ≤ now
  pub done : OnOk result (now ≡ before)
  pub stopped : IfErr result (KeepsCount before now)

-- the stop is for this refusal, and its line says it
abbrev pub Refuses : Refusal → Stop → Type 0
Refuses refusal ReadFault = ⊥
Refuses refusal OutOfMemory = ⊥
Refuses refusal (Refused answered line) = (answered ≡ refusal) × TellsRefusal refusal line

-- over the files, where they are told, a step finds what is owed, or stops with its cause
abbrev pub Gives : {X : Type 0} → (Files → X → Type 0) → (Files → Refusal → Type 0) → Option Files → ℕ → ℕ → Result X Stop → Type 0
Gives owed refused files before now (Ok x) = IfSome files (λ m. owed m x)
Gives owed refused files before now (Err stop) = HasStopCause refused files before now stop

-- the output is owed, and no refusal is
pub record IsOwed (asked : Asked) (files : Files) (output : Output) : Type 0 where
  pub text : IsOwedText asked files output.text output.alarmed
  pub unrefused : IsUnrefused asked files

-- composition stops for want of memory, or since the parts have this size and are too wide
abbrev pub StopsWide : ℕ → Stop → Type 0
StopsWide size stop = (stop ≡ OutOfMemory) ⊎ ((size_limit ≤ size) × Refuses (refusal.TooWide size) stop)

-- why a text has no tree: it is too large, none spells it, and reading left it at the offset, at a construct or elsewhere, or memory ran out
abbrev pub HasBadCause : List ℕ → Bad → Type 0
HasBadCause text (bad.TooLarge n) = (limit < length text) × (n ≡ length text)
HasBadCause text (bad.Construct place what) = IsBad text × (length text ≤ limit) × IsConstructAt text place.offset what
HasBadCause text (bad.At place) = IsBad text × (length text ≤ limit) × IsRefusedAt text place.offset
HasBadCause text bad.OutOfMemory = Unit {0}

-- what a module without a tree means for the run
abbrev pub StopsFor : List ℕ → Bad → Stop → Type 0
StopsFor path (bad.TooLarge n) stop = Refuses (refusal.TooLarge path n) stop
StopsFor path (bad.Construct place what) stop = Refuses (refusal.Construct path place.offset what) stop
StopsFor path (bad.At place) stop = Refuses (refusal.NotInProfile path place.offset) stop
StopsFor path bad.OutOfMemory stop = stop ≡ OutOfMemory

-- what a fault of the lockfile means for the run: want of memory is no refusal
abbrev pub StopsForLock : LockFault → Stop → Type 0
StopsForLock lock_fault.NotJson stop = Refuses (refusal.Lock lock_fault.NotJson) stop
StopsForLock (lock_fault.Shape place) stop = Refuses (refusal.Lock (lock_fault.Shape place)) stop
StopsForLock (lock_fault.Version found) stop = Refuses (refusal.Lock (lock_fault.Version found)) stop
StopsForLock lock_fault.OutOfMemory stop = stop ≡ OutOfMemory

-- and one of the advisories
abbrev pub StopsForAdvisories : AdvisoryFault → Stop → Type 0
StopsForAdvisories advisory_fault.NotJson stop = Refuses (refusal.Advisory advisory_fault.NotJson) stop
StopsForAdvisories advisory_fault.Shape stop = Refuses (refusal.Advisory advisory_fault.Shape) stop
StopsForAdvisories (advisory_fault.Field index field) stop = Refuses (refusal.Advisory (advisory_fault.Field index field)) stop
StopsForAdvisories (advisory_fault.Range index at) stop = Refuses (refusal.Advisory (advisory_fault.Range index at)) stop
StopsForAdvisories advisory_fault.OutOfMemory stop = stop ≡ OutOfMemory

-- reading a lockfile stops for want of memory, or for the fault of its bytes
abbrev pub StopsForBytes : List ℕ → Stop → Type 0
StopsForBytes bytes stop = (stop ≡ OutOfMemory) ⊎ ((fault : LockFault) × (lock_of bytes ≡ Err fault) × Refuses (refusal.Lock fault) stop)

-- and so does reading the advisories
abbrev pub StopsForText : List ℕ → Stop → Type 0
StopsForText bytes stop = (stop ≡ OutOfMemory) ⊎ ((fault : AdvisoryFault) × IsFault bytes fault × Refuses (refusal.Advisory fault) stop)
