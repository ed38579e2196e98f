-- Stops and their causes, over a folder that may tell its files.
use Rattle.std.proofs.Common.{◌≡◌, ℕ, ◌≤◌, List, ap, sym, subst, ◌∙◌, arith, Bool, Option, Some, None, Result, Ok, Err}
use Rattle.std.specs.Result.{IfErr, IfOk, IsErrAnd}
use Rattle.std.specs.Option.{IfSome}
use Rattle.jam_base.specs.Causes.{Rose}
use Rattle.jam_base.specs.Files.{Files}
use Rattle.node_resolve.specs.declared.target.Target.{Target}
use Rattle.node_resolve.specs.Targets.{entry_target}
use Rattle.jam_app.specs.declared.answers.refusal.Refusal.{Refusal}
use Rattle.jam_app.specs.declared.answers.refusal.Refusal.TheVariants as refusal
use Rattle.jam_app.specs.declared.answers.stop.Stop.{Stop}
use Rattle.jam_app.specs.declared.answers.stop.Stop.TheVariants.{ReadFault, OutOfMemory, Refused}
use Rattle.jam_app.specs.Entries.{begun, module_path}
use Rattle.jam_app.specs.Refusals.{IsLoadRefusal, no_entry}
use Rattle.jam_app.specs.declared.audit.report.Output.{Output}
use Rattle.word_reader.specs.Requests.{Asked}
use Rattle.jam_app.specs.declared.answers.status.Status.{Status}
use Rattle.jam_app.specs.declared.answers.status.Status.TheVariants as statuses
use Rattle.jam_app.specs.declared.answers.status.Status.TheVariants.{Clean, Alarms, WriteFault, NoMemory, Usage}
use Rattle.jam_app.specs.Outcomes.{RefusesAlways}
use Rattle.jam_app.specs.Stops.{CountsFaults, Gives, HasStopCause, IsOwed, KeepsCount, Refuses}
use Rattle.jam_app.specs.Lines.{TellsRefusal}

-- what follows from one fact, or from two, of the files that a folder may tell
pub told : {P Q : Files → Type 0} (files : Option Files) → IfSome files P → ((m : Files) → P m → Q m) → IfSome files Q
told None p f = tt
told (Some m) p f = f m p

pub both_told : {P Q R : Files → Type 0} (files : Option Files) → IfSome files P → IfSome files Q → ((m : Files) → P m → Q m → R m) → IfSome files R
both_told None p q f = tt
both_told (Some m) p q f = f m p q

-- and from three, where calls left the files as they were
pub three_told : (P Q R : Files → Type 0) (first second third : Option Files) → second ≡ first → third ≡ second → IfSome first P → IfSome second Q → IfSome third R → IfSome first (λ m. P m × Q m × R m)
three_told P Q R first second third same later p q r =
    let q_first : IfSome first Q = subst (λ (fs : Option Files). IfSome fs Q) same q in
    let r_first : IfSome first R = subst (λ (fs : Option Files). IfSome fs R) (later ∙ same) r in
    by first p q_first r_first
  where
    by : (fs : Option Files) → IfSome fs P → IfSome fs Q → IfSome fs R → IfSome fs (λ m. P m × Q m × R m)
    by None a b c = tt
    by (Some m) a b c = (a, b, c)

pub any_files : {P : Files → Type 0} (files : Option Files) → ((m : Files) → P m) → IfSome files P
any_files None f = tt
any_files (Some m) f = f m

-- what holds of all results holds of the one that there is
pub for_all_ok : {X E : Type 0} {P : X → Type 0} (r : Result X E) → ((x : X) → P x) → IfOk r P
for_all_ok (Ok x) all = all x
for_all_ok (Err e) all = tt

-- a count that rose after another call rose
pub rose_later : (before mid now : ℕ) → before ≤ mid → Rose mid now → Rose before now
rose_later before mid now later rose = omega (arith, later, rose)

-- a stop after an earlier call has its cause over both
pub stop_after : (P Q : Files → Refusal → Type 0) (first files : Option Files) (before mid now : ℕ) (stop : Stop) → files ≡ first → before ≤ mid
    → IfSome first (λ m. (owed : Refusal) → P m owed → Q m owed) → HasStopCause P files mid now stop → HasStopCause Q first before now stop
stop_after P Q first files before mid now stop same later means cause =
    by stop (subst (λ (fs : Option Files). HasStopCause P fs mid now stop) same cause)
  where
    by : (s : Stop) → HasStopCause P first mid now s → HasStopCause Q first before now s
    by ReadFault c = rose_later before mid now later c
    by OutOfMemory c = tt
    by (Refused owed line) c = (both_told first means c.0 (λ m f p. f owed p), c.1)

-- a stop for a refusal that the files give
pub refused_stop : (P : Files → Refusal → Type 0) (owed : Refusal) (files : Option Files) (before now : ℕ) (stop : Stop) → Refuses owed stop → IfSome files (λ m. P m owed) → HasStopCause P files before now stop
refused_stop P owed files before now ReadFault is gives = absurd is
refused_stop P owed files before now OutOfMemory is gives = absurd is
refused_stop P owed files before now (Refused answered line) is gives =
    (told files gives (λ m p. subst (P m) (sym is.0) p), subst (λ r. TellsRefusal r line) (sym is.0) is.1)

-- what a last step gives, over what stood before
pub gives_through : {X : Type 0} (P Q : Files → X → Type 0) (R S : Files → Refusal → Type 0) (first files : Option Files) (before mid now : ℕ) (r : Result X Stop) → files ≡ first → before ≤ mid
    → IfSome first (λ m. ((x : X) → P m x → Q m x) × ((owed : Refusal) → R m owed → S m owed)) → Gives P R files mid now r → Gives Q S first before now r
gives_through P Q R S first files before mid now (Ok x) same later means g =
    both_told first means (subst (λ (fs : Option Files). IfSome fs (λ m. P m x)) same g) (λ m f p. f.0 x p)
gives_through P Q R S first files before mid now (Err stop) same later means g = stop_after R S first files before mid now stop same later (told first means (λ m f. f.1)) g

-- an entry whose target isn't a module
pub no_module : (entry : Option (List ℕ)) (files : Option Files) (before now : ℕ) (stop : Stop) (found : Target) (path : Option (List ℕ)) → IfSome files (λ m. found ≡ entry_target m entry)
    → path ≡ module_path found → path ≡ None → Refuses refusal.NoEntry stop → HasStopCause (λ m owed. (skip : Bool) → IsLoadRefusal (begun entry skip) m owed) files before now stop
no_module entry files before now stop found path is named none refuses =
    refused_stop (λ m owed. (skip : Bool) → IsLoadRefusal (begun entry skip) m owed) refusal.NoEntry files before now stop refuses (told files is (λ m e skip. no_entry (ap module_path (sym e) ∙ sym named ∙ none)))

-- where the count stands still, any stop keeps it
pub kept_count : (before now : ℕ) (stop : Stop) → now ≡ before → KeepsCount before now stop
kept_count before now ReadFault same = tt
kept_count before now OutOfMemory same = same
kept_count before now (Refused refusal line) same = same

pub counts_stop : {X : Type 0} (before now : ℕ) (stop : Stop) → now ≡ before → CountsFaults {X = X} before now (Err stop)
counts_stop before now stop same = record { later = omega (arith, same); done = tt; stopped = kept_count before now stop same }

pub counts_still : {X : Type 0} (before now : ℕ) (r : Result X Stop) → now ≡ before → CountsFaults before now r
counts_still before now (Ok x) same = record { later = omega (arith, same); done = same; stopped = tt }
counts_still before now (Err stop) same = counts_stop before now stop same

-- what a last step says of the count, behind calls that left it as it was
pub counts_through : {X : Type 0} (before mid now : ℕ) (r : Result X Stop) → mid ≡ before → CountsFaults mid now r → CountsFaults before now r
counts_through before mid now r same counts = subst (λ n. CountsFaults n now r) same counts

pub counts_of : {X : Type 0} (n : ℕ) (stop : Stop) → KeepsCount n n stop → CountsFaults {X = X} n n (Err stop)
counts_of n stop kept = record { later = omega arith; done = tt; stopped = kept }

-- the count of a stop that is handed on, behind calls that left it as it was
pub counts_on : {X Y : Type 0} (before mid now : ℕ) (stop : Stop) (result : Result Y Stop) → IsErrAnd result (λ e. e ≡ stop) → mid ≡ before → CountsFaults {X = X} mid now (Err stop) → CountsFaults before now result
counts_on before mid now stop (Ok y) is same counts = absurd is
counts_on before mid now stop (Err e) is same counts = record {
  later = omega (arith, counts.later, same);
  done = tt;
  stopped = subst (KeepsCount before now) (sym is) (subst (λ n. KeepsCount n now stop) same counts.stopped);
}

-- a stop that is handed on
pub handed_on : {X : Type 0} (owed : Files → X → Type 0) (P Q : Files → Refusal → Type 0) (first files : Option Files) (before mid now : ℕ) (stop : Stop) (result : Result X Stop)
    → IsErrAnd result (λ e. e ≡ stop) → files ≡ first → before ≤ mid → IfSome first (λ m. (r : Refusal) → P m r → Q m r) → HasStopCause P files mid now stop → Gives owed Q first before now result
handed_on owed P Q first files before mid now stop (Err e) is same later means cause =
    subst (HasStopCause Q first before now) (sym is) (stop_after P Q first files before mid now stop same later means cause)
handed_on owed P Q first files before mid now stop (Ok x) is same later means cause = absurd is

-- where an output is owed, no refusal is, so any status will do
pub refuses_none : (status : Status) (asked : Asked) (output : Output) (files : Option Files) → IfSome files (λ m. IsOwed asked m output) → IfSome files (λ m. RefusesAlways status asked m)
refuses_none status asked output files is = told files is (λ m owed. unrefused status m owed)
  where
    unrefused : (s : Status) (m : Files) → IsOwed asked m output → RefusesAlways s asked m
    unrefused Clean m owed = owed.unrefused
    unrefused Alarms m owed = owed.unrefused
    unrefused WriteFault m owed = owed.unrefused
    unrefused Usage m owed = owed.unrefused
    unrefused (statuses.Refused r) m owed = tt
    unrefused statuses.ReadFault m owed = tt
    unrefused NoMemory m owed = tt

-- what holds of a stop that is handed on
pub stop_handed : {X : Type 0} (P : Stop → Type 0) (stop : Stop) (result : Result X Stop) → IsErrAnd result (λ e. e ≡ stop) → P stop → IfErr result P
stop_handed P stop (Err e) is p = subst P (sym is) p
stop_handed P stop (Ok x) is p = absurd is
