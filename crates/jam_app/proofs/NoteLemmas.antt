-- The notes of what is loaded are those of the report.
use Rattle.std.proofs.Common.{◌≡◌, ℕ, zero, suc, Bool, true, false, ◌||◌, Option, Some, None, arith, List, [], ◌∷◌, ◌++◌, map, length, refl, sym, ap, ◌∙◌}
use Rattle.std.specs.Prelude.{All, Contains, flat_map, is_some}
use Rattle.std.specs.List.{filter_map}
use Rattle.std.proofs.lemmas.List.Elements.{All-head, All-tail, Contains-append_right}
use Rattle.composer.proofs.Members.{none}
use Rattle.jam_base.specs.Ascending.{ascending}
use Rattle.jam_base.specs.Files.{Files}
use Rattle.flow_rules.specs.Constraints.{ModuleConstraints}
use Rattle.flow_rules.specs.Flows.{notes_of, requires_of}
use Rattle.lock_reader.specs.Owner.{IsOwnerAt, owns}
use Rattle.lock_reader.specs.declared.lock.LockEntry.{LockEntry}
use Rattle.advisory_reader.specs.declared.advisory.Advisory.{Advisory}
use Rattle.alarms.specs.Alarms.{unversioned}
use Rattle.report_text.specs.declared.report.Note.{Note}
use Rattle.jam_app.specs.declared.audit.noted.Noted.{Noted}
use Rattle.jam_app.specs.declared.loading.loaded.Loaded.{Loaded}
use Rattle.jam_app.specs.Graphs.{place_text}
use Rattle.jam_app.specs.Loading.{IsKept, missing_by, module_of}
use Rattle.jam_app.specs.Notes.{all_noted, all_notes, is_owned, loaded_notes, lock_noted, missing_noted, module_notes, note_at, noted_of, noted_order, notes_owed, own_noted, skip_noted, unversioned_note}

noted_same : (skip : Bool) (files : Files) (entries : List LockEntry) (l : Loaded) → IsKept skip files l → loaded_notes entries l ≡ module_notes files entries (module_of l)
noted_same skip files entries l kept = ap (λ ns. map (note_at l.path (place_text l.text)) (ascending noted_order ns)) (λ i.
    lock_noted (is_owned entries l.path) ++ map own_noted (ap (λ (c : ModuleConstraints). c.notes) kept.summary.whole i) ++ map missing_noted (kept.missing i) ++ skip_noted l.skipped (length l.text))

pub notes_same : (skip : Bool) (files : Files) (entries : List LockEntry) (advisories : List Advisory) (loaded : List Loaded) → All (IsKept skip files) loaded
    → all_notes entries advisories loaded ≡ notes_owed files entries advisories (map module_of loaded)
notes_same skip files entries advisories loaded kept = ap (λ (ns : List Note). ns ++ map unversioned_note (unversioned advisories entries)) (by loaded kept)
  where
    by : (ls : List Loaded) → All (IsKept skip files) ls → flat_map (loaded_notes entries) ls ≡ flat_map (module_notes files entries) (map module_of ls)
    by [] h = refl
    by (l ∷ ls) h = λ i. noted_same skip files entries l (All-head (IsKept skip files) l ls h) i ++ by ls (All-tail (IsKept skip files) l ls h) i

-- ---- what owns a module

none_owned : (path : List ℕ) (entries : List LockEntry) → ((e : LockEntry) → Contains entries e → owns e.location path ≡ false) → is_owned entries path ≡ false
none_owned path [] not = refl
none_owned path (e ∷ es) not = λ i. not e (0, omega arith, refl) i || none_owned path es (λ x h. not x (Contains-append_right (e ∷ []) es x h)) i

or_true : (a b : Bool) → b ≡ true → (a || b) ≡ true
or_true true b e = refl
or_true false b e = e

one_owned : (path : List ℕ) (entries : List LockEntry) (e : LockEntry) → Contains entries e → owns e.location path ≡ true → is_owned entries path ≡ true
one_owned path [] e h is = absurd (none e h)
one_owned path (x ∷ es) e (zero, lt, at) is = λ i. (ap (λ (y : LockEntry). owns y.location path) at ∙ is) i || is_owned es path
one_owned path (x ∷ es) e (suc k, lt, at) is = or_true (owns x.location path) (is_owned es path) (one_owned path es e (k, omega (arith, lt), at) is)

-- a place of an owner is found exactly where an entry owns the path
pub owned_is : (entries : List LockEntry) (path : List ℕ) (place : Option ℕ) → IsOwnerAt entries path place → is_some place ≡ is_owned entries path
owned_is entries path None owner = sym (none_owned path entries owner)
owned_is entries path (Some place) (e, at, owner) = sym (one_owned path entries e owner.0 owner.1)

-- the notes of what is noted of a module
pub noted_is : (entries : List LockEntry) (l : Loaded) (owned : Bool) (noted : List Noted) → owned ≡ is_owned entries l.path → noted ≡ ascending noted_order (all_noted owned l)
    → map (note_at l.path (place_text l.text)) noted ≡ loaded_notes entries l
noted_is entries l owned noted is made = ap (map (note_at l.path (place_text l.text))) (made ∙ ap (λ b. ascending noted_order (all_noted b l)) is)
