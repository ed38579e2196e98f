-- The files that `audit` reads: what is read, and what is refused.
use Rattle.std.proofs.Common.{◌≡◌, ◌⊎◌, ℕ, inl, inr, List, [], refl, sym, ap, subst, ◌∙◌, Option, Some, None, Result, Ok, Err}
use Rattle.std.specs.Option.{IfSome, option_map}
use Rattle.std.specs.Result.{IfErr, IfOk}
use Rattle.std.proofs.lemmas.Option.{none-some, same_Some}
use Rattle.jam_base.specs.Files.{Files}
use Rattle.lock_reader.specs.Lock.{lock_of}
use Rattle.lock_reader.specs.declared.fault.LockFault.{LockFault}
use Rattle.lock_reader.specs.declared.fault.LockFault.TheVariants as lock_fault
use Rattle.lock_reader.specs.declared.lock.Lock.{Lock}
use Rattle.lock_reader.specs.declared.lock.LockEntry.{LockEntry}
use Rattle.advisory_reader.specs.Advisories.{IsFault, SpellsAdvisories}
use Rattle.advisory_reader.specs.declared.advisory.Advisory.{Advisory}
use Rattle.advisory_reader.specs.declared.fault.AdvisoryFault.{AdvisoryFault}
use Rattle.advisory_reader.specs.declared.fault.AdvisoryFault.TheVariants as advisory_fault
use Rattle.advisory_reader.proofs.Uniqueness.{IsFault-one, only_fault}
use Rattle.jam_app.specs.declared.answers.refusal.Refusal.{Refusal}
use Rattle.jam_app.specs.declared.answers.refusal.Refusal.TheVariants as refusal
use Rattle.jam_app.specs.declared.answers.stop.Stop.{Stop}
use Rattle.jam_app.specs.declared.answers.stop.Stop.TheVariants.{OutOfMemory}
use Rattle.jam_app.specs.AuditFiles.{HasAdvisories, HasLock, IsAdvisoryRefusal, IsLockRefusal, advisory, file_named, lock, lock_file, no_advisories, no_lock, package_lock, shrinkwrap}
use Rattle.jam_app.specs.Stops.{Gives, HasStopCause, StopsForAdvisories, StopsForBytes, StopsForLock, StopsForText}
use Rattle.jam_app.proofs.Causes.{refused_stop, told}

-- ---- one of them at most

same_error : {A E : Type 0} (f g : E) → ◌≡◌ {A = Result A E} (Err f) (Err g) → f ≡ g
same_error f g e = cc

not_both : {A E : Type 0} (x : A) (f : E) → ◌≡◌ {A = Result A E} (Ok x) (Err f) → ⊥
not_both x f e = cc

same_bytes : (m : Files) (n k b d : List ℕ) → lock_file m ≡ Some (n, b) → lock_file m ≡ Some (k, d) → b ≡ d
same_bytes m n k b d e h = ap (λ (p : List ℕ × List ℕ). p.1) (same_Some (n, b) (k, d) (sym e ∙ h))

pub lock_apart : (m : Files) (entries : List LockEntry) (owed : Refusal) → HasLock m entries → IsLockRefusal m owed → ⊥
lock_apart m entries owed has (no_lock none) = none-some (has.name, has.bytes) (sym none ∙ has.file)
lock_apart m entries owed has (lock name bytes fault file wrong) =
    not_both entries fault (sym has.read ∙ ap lock_of (same_bytes m has.name name has.bytes bytes has.file file) ∙ wrong)

pub one_lock : (m : Files) (one other : Refusal) → IsLockRefusal m one → IsLockRefusal m other → one ≡ other
one_lock m one other (no_lock a) (no_lock b) = refl
one_lock m one other (no_lock a) (lock name bytes fault file wrong) = absurd (none-some (name, bytes) (sym a ∙ file))
one_lock m one other (lock name bytes fault file wrong) (no_lock b) = absurd (none-some (name, bytes) (sym b ∙ file))
one_lock m one other (lock name bytes fault file wrong) (lock k d g f h) =
    ap refusal.Lock (same_error fault g (sym wrong ∙ ap lock_of (same_bytes m name k bytes d file f) ∙ h))

pub advisories_apart : (m : Files) (name : List ℕ) (advisories : List Advisory) (owed : Refusal) → HasAdvisories m name advisories → IsAdvisoryRefusal m name owed → ⊥
advisories_apart m name advisories owed has (no_advisories none) = none-some has.bytes (sym none ∙ has.file)
advisories_apart m name advisories owed has (advisory bytes fault file wrong) =
    let same : has.bytes ≡ bytes = same_Some has.bytes bytes (sym has.file ∙ file) in
    only_fault bytes (Ok advisories) (subst (λ b. SpellsAdvisories b advisories) same has.spelled) tt fault wrong

pub one_advisory : (m : Files) (name : List ℕ) (one other : Refusal) → IsAdvisoryRefusal m name one → IsAdvisoryRefusal m name other → one ≡ other
one_advisory m name one other (no_advisories a) (no_advisories b) = refl
one_advisory m name one other (no_advisories a) (advisory bytes fault file wrong) = absurd (none-some bytes (sym a ∙ file))
one_advisory m name one other (advisory bytes fault file wrong) (no_advisories b) = absurd (none-some bytes (sym b ∙ file))
one_advisory m name one other (advisory bytes fault file wrong) (advisory d g f h) =
    let same : bytes ≡ d = same_Some bytes d (sym file ∙ f) in
    ap refusal.Advisory (IsFault-one d fault g (subst (λ b. IsFault b fault) same wrong) h)

-- ---- stops

-- what a fault of the lockfile's bytes means
pub lock_stop : (bytes : List ℕ) (fault : LockFault) (stop : Stop) → (fault ≡ lock_fault.OutOfMemory) ⊎ (lock_of bytes ≡ Err fault) → StopsForLock fault stop → StopsForBytes bytes stop
lock_stop bytes lock_fault.NotJson stop cause stops = elim cause [ inl e ↦ absurd (cc) | inr wrong ↦ inr (lock_fault.NotJson, wrong, stops) ]
lock_stop bytes (lock_fault.Shape place) stop cause stops = elim cause [ inl e ↦ absurd (cc) | inr wrong ↦ inr (lock_fault.Shape place, wrong, stops) ]
lock_stop bytes (lock_fault.Version found) stop cause stops = elim cause [ inl e ↦ absurd (cc) | inr wrong ↦ inr (lock_fault.Version found, wrong, stops) ]
lock_stop bytes lock_fault.OutOfMemory stop cause stops = inl stops

pub text_stop : (bytes : List ℕ) (fault : AdvisoryFault) (stop : Stop) → (fault ≡ advisory_fault.OutOfMemory) ⊎ IsFault bytes fault → StopsForAdvisories fault stop → StopsForText bytes stop
text_stop bytes advisory_fault.NotJson stop cause stops = elim cause [ inl e ↦ absurd (cc) | inr wrong ↦ inr (advisory_fault.NotJson, wrong, stops) ]
text_stop bytes advisory_fault.Shape stop cause stops = elim cause [ inl e ↦ absurd (cc) | inr wrong ↦ inr (advisory_fault.Shape, wrong, stops) ]
text_stop bytes (advisory_fault.Field index field) stop cause stops = elim cause [ inl e ↦ absurd (cc) | inr wrong ↦ inr (advisory_fault.Field index field, wrong, stops) ]
text_stop bytes (advisory_fault.Range index at) stop cause stops = elim cause [ inl e ↦ absurd (cc) | inr wrong ↦ inr (advisory_fault.Range index at, wrong, stops) ]
text_stop bytes advisory_fault.OutOfMemory stop cause stops = inl stops

-- a stop at the lockfile has its cause
pub lock_cause : (name bytes : List ℕ) (files : Option Files) (before now : ℕ) (stop : Stop) → IfSome files (λ m. lock_file m ≡ Some (name, bytes)) → StopsForBytes bytes stop → HasStopCause IsLockRefusal files before now stop
lock_cause name bytes files before now stop file (inl none) = subst (HasStopCause IsLockRefusal files before now) (sym none) tt
lock_cause name bytes files before now stop file (inr (fault, wrong, refuses)) =
    refused_stop IsLockRefusal (refusal.Lock fault) files before now stop refuses (told files file (λ m e. lock name bytes fault e wrong))

pub advisory_cause : (name bytes : List ℕ) (files : Option Files) (before now : ℕ) (stop : Stop) → IfSome files (λ m. file_named m name ≡ Some bytes) → StopsForText bytes stop
    → HasStopCause (λ m owed. IsAdvisoryRefusal m name owed) files before now stop
advisory_cause name bytes files before now stop file (inl none) = subst (HasStopCause (λ m owed. IsAdvisoryRefusal m name owed) files before now) (sym none) tt
advisory_cause name bytes files before now stop file (inr (fault, wrong, refuses)) =
    refused_stop (λ m owed. IsAdvisoryRefusal m name owed) (refusal.Advisory fault) files before now stop refuses (told files file (λ m e. advisory bytes fault e wrong))

-- what a file that is to be the lockfile, or that of the advisories, gives
pub lock_given : (name bytes : List ℕ) (files : Option Files) (before now : ℕ) (result : Result Lock Stop) → IfSome files (λ m. lock_file m ≡ Some (name, bytes)) → IfOk result (λ l. lock_of bytes ≡ Ok l.entries)
    → IfErr result (StopsForBytes bytes) → Gives (λ m l. HasLock m l.entries) IsLockRefusal files before now result
lock_given name bytes files before now (Ok l) file read stops = told files file (λ m e. record { name = name; bytes = bytes; file = e; read = read })
lock_given name bytes files before now (Err stop) file read stops = lock_cause name bytes files before now stop file stops

pub advisories_given : (name bytes : List ℕ) (files : Option Files) (before now : ℕ) (result : Result (List Advisory) Stop) → IfSome files (λ m. file_named m name ≡ Some bytes) → IfOk result (λ list. SpellsAdvisories bytes list)
    → IfErr result (StopsForText bytes) → Gives (λ m list. HasAdvisories m name list) (λ m owed. IsAdvisoryRefusal m name owed) files before now result
advisories_given name bytes files before now (Ok list) file read stops = told files file (λ m e. record { bytes = bytes; file = e; spelled = read })
advisories_given name bytes files before now (Err stop) file read stops = advisory_cause name bytes files before now stop file stops

-- which file is to be the lockfile
pub shrinkwrap_there : (m : Files) (bytes : List ℕ) → file_named m shrinkwrap ≡ Some bytes → lock_file m ≡ Some (shrinkwrap, bytes)
shrinkwrap_there m bytes e = ap (λ (o : Option (List ℕ)). elim o [ None ↦ package_lock m | Some b ↦ Some (shrinkwrap, b) ]) e

pub shrinkwrap_absent : (m : Files) → file_named m shrinkwrap ≡ None → lock_file m ≡ package_lock m
shrinkwrap_absent m e = ap (λ (o : Option (List ℕ)). elim o [ None ↦ package_lock m | Some b ↦ Some (shrinkwrap, b) ]) e
