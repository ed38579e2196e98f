-- What a run writes on the error output.
use Rattle.std.proofs.Common.{◌≡◌, ◌++◌, ℕ, zero, suc, List, [], refl, ap, subst, ◌∙◌, Option, Some, None, take, inr, codes}
use Rattle.jam_base.specs.declared.place.Place.{Place}
use Rattle.jam_app.specs.declared.answers.line.Line.{Line}
use Rattle.jam_app.specs.declared.answers.line.Line.TheVariants.{Nothing, Fixed, Made}
use Rattle.jam_app.specs.declared.answers.refusal.Refusal.{Refusal}
use Rattle.jam_app.specs.declared.answers.refusal.Refusal.TheVariants as refusal
use Rattle.jam_app.specs.declared.answers.status.Status.{Status}
use Rattle.jam_app.specs.declared.answers.status.Status.TheVariants as status
use Rattle.lock_reader.specs.declared.fault.LockFault.{LockFault}
use Rattle.lock_reader.specs.declared.fault.LockFault.TheVariants as lock_fault
use Rattle.advisory_reader.specs.declared.fault.AdvisoryFault.{AdvisoryFault}
use Rattle.advisory_reader.specs.declared.fault.AdvisoryFault.TheVariants as advisory_fault
use Rattle.jam_app.specs.AuditFiles.{lock_name}
use Rattle.jam_app.specs.Lines.{IsAdvisoryText, IsLockText, IsRefusalText, IsTold, TellsRefusal, TellsStatus, construct_line, field_line, no_advisories, no_entry, no_lock, not_json_line, range_line, shape_line, version_line, not_in_profile_line, text_of, too_large_line, too_many_line, too_wide_line}
use Rattle.jam_app.specs.Written.{TakesFront}

nothing_taken : (n : ℕ) → take n (let none : List ℕ = [] in none) ≡ []
nothing_taken zero = refl
nothing_taken (suc n) = refl

-- where nothing was taken, a front of any text was
front_of_none : (old new : Option (List ℕ)) (text : List ℕ) → TakesFront old new [] → TakesFront old new text
front_of_none None new text took = tt
front_of_none (Some bytes) new text (n, is) = (0, is ∙ ap (λ (t : List ℕ). Some (bytes ++ t)) (nothing_taken n))

-- a text that says what is wrong with a lockfile, or with the advisories
lock_said : (fault : LockFault) → (text : List ℕ) × IsLockText lock_name fault text
lock_said lock_fault.NotJson = (not_json_line lock_name, refl)
lock_said (lock_fault.Shape place) = (shape_line lock_name place, refl)
lock_said (lock_fault.Version found) = (version_line lock_name found, refl)
lock_said lock_fault.OutOfMemory = ([], refl)

advisory_said : (fault : AdvisoryFault) → (text : List ℕ) × IsAdvisoryText fault text
advisory_said advisory_fault.NotJson = (codes "jam: advisories: not JSON\n", refl)
advisory_said advisory_fault.Shape = (codes "jam: advisories: wrong shape\n", refl)
advisory_said (advisory_fault.Field index field) = (field_line index field, refl)
advisory_said (advisory_fault.Range index at) = (range_line index at, refl)
advisory_said advisory_fault.OutOfMemory = ([], refl)

-- a text that says a refusal
refusal_text : (owed : Refusal) → (text : List ℕ) × IsRefusalText owed text
refusal_text refusal.NoLock = (no_lock, refl)
refusal_text (refusal.Lock fault) = let said = lock_said fault in (said.0, (lock_name, inr refl, said.1))
refusal_text refusal.NoAdvisories = (no_advisories, refl)
refusal_text (refusal.Advisory fault) = advisory_said fault
refusal_text refusal.NoEntry = (no_entry, refl)
refusal_text (refusal.TooMany modules bytes) = (too_many_line modules bytes, refl)
refusal_text (refusal.TooLarge path n) = (too_large_line path n, refl)
refusal_text (refusal.Construct path at what) =
    let place : Place = record { offset = at; line = 1; column = 1 } in (construct_line path 1 1 what, (place, refl, refl))
refusal_text (refusal.NotInProfile path at) =
    let place : Place = record { offset = at; line = 1; column = 1 } in (not_in_profile_line path 1 1, (place, refl, refl))
refusal_text (refusal.TooWide size) = (too_wide_line size, refl)

told_refusal : (old new : Option (List ℕ)) (owed : Refusal) (line : Line) → TellsRefusal owed line → TakesFront old new (text_of line) → (text : List ℕ) × IsRefusalText owed text × TakesFront old new text
told_refusal old new owed Nothing tells took = let text = refusal_text owed in (text.0, text.1, front_of_none old new text.0 took)
told_refusal old new owed (Fixed text) tells took = (text.now, tells, took)
told_refusal old new owed (Made text) tells took = (text, tells, took)

-- the line of a status, or a front of it, was taken
pub told_status : (old new : Option (List ℕ)) (ended : Status) (line : Line) → TellsStatus ended line → TakesFront old new (text_of line) → IsTold (TakesFront old new) ended
told_status old new status.Clean line tells took = subst (TakesFront old new) tells took
told_status old new status.Alarms line tells took = subst (TakesFront old new) tells took
told_status old new (status.Refused owed) line tells took = told_refusal old new owed line tells took
told_status old new status.ReadFault line tells took = subst (TakesFront old new) tells took
told_status old new status.WriteFault line tells took = subst (TakesFront old new) tells took
told_status old new status.NoMemory line tells took = subst (TakesFront old new) tells took
told_status old new status.Usage line tells took = (text_of line, took)
