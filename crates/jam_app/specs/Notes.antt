-- The notes of a report.
use Rattle.std.specs.Prelude.{◌≡◌, ℕ, ◌++◌, Bool, true, false, not, List, [], ◌∷◌, length, map, flat_map, filter, Option, Some, None, codes, nat_lt, if◌then◌else◌}
use Rattle.std.specs.List.{filter_map, list_any}
use Rattle.std.specs.Ordering.{nat_cmp, on, then_cmp}
use Rattle.std.specs.declared.cmp.Ordering.{Ordering}
use Rattle.js_tree.specs.Spells.{limit}
use Rattle.jam_base.specs.Ascending.{ascending}
use Rattle.jam_base.specs.Files.{Files}
use Rattle.jam_base.specs.Place.{place_at}
use Rattle.flow_rules.specs.Flows.{notes_of, requires_of}
use Rattle.flow_rules.specs.declared.module.ModuleNote.{ModuleNote}
use Rattle.flow_rules.specs.declared.module.NoteKind.{NoteKind}
use Rattle.flow_rules.specs.declared.module.NoteKind.TheVariants as kind
use Rattle.lock_reader.specs.Owner.{owns}
use Rattle.lock_reader.specs.declared.lock.LockEntry.{LockEntry}
use Rattle.advisory_reader.specs.declared.advisory.Advisory.{Advisory}
use Rattle.alarms.specs.Alarms as alarms
use Rattle.report_text.specs.declared.report.Note.{Note}
use Rattle.jam_app.specs.declared.audit.noted.Noted.{Noted}
use Rattle.jam_app.specs.declared.audit.noted.Remark.{Remark}
use Rattle.jam_app.specs.declared.audit.noted.Remark.TheVariants as remark
use Rattle.jam_app.specs.declared.loading.loaded.Loaded.{Loaded}
use Rattle.jam_app.specs.declared.loading.loaded.Missing.{Missing}
use Rattle.jam_app.specs.Graphs.{place_text}
use Rattle.jam_app.specs.Loading.{missing_by}
use Rattle.jam_app.specs.Rounds.{LoadedModule}

-- ---- what is noted of a module

abbrev pub not_found : List ℕ → List ℕ
not_found spec = codes "not found: " ++ spec

abbrev pub text_of : Remark → List ℕ
text_of remark.NotInLockfile = codes "not in the lockfile"
text_of remark.DynamicRequire = codes "dynamic require"
text_of remark.RequireValue = codes "require as a value"
text_of (remark.NotFound spec) = not_found spec
text_of remark.TooLarge = codes "skipped: too large"
text_of remark.NotInProfile = codes "skipped: not in the profile"

-- notes at one offset go by what they say
abbrev pub rank_of : Remark → ℕ
rank_of remark.NotInLockfile = 0
rank_of remark.DynamicRequire = 1
rank_of remark.RequireValue = 2
rank_of (remark.NotFound spec) = 3
rank_of remark.TooLarge = 4
rank_of remark.NotInProfile = 4

abbrev pub noted_order : Noted → Noted → Ordering
noted_order = then_cmp (on (λ n. n.offset) nat_cmp) (on (λ n. rank_of n.remark) nat_cmp)

abbrev pub remark_of : NoteKind → Remark
remark_of kind.DynamicRequire = remark.DynamicRequire
remark_of kind.RequireValue = remark.RequireValue

-- a note of the module's text
abbrev pub own_noted : ModuleNote → Noted
own_noted note = record { offset = note.offset; remark = remark_of note.kind }

-- a require that leads nowhere
abbrev pub missing_noted : Missing → Noted
missing_noted missing = record { offset = missing.offset; remark = remark.NotFound missing.spec }

-- no installed package owns the module
abbrev pub lock_noted : Bool → List Noted
lock_noted owned = if owned then [] else record { offset = 0; remark = remark.NotInLockfile } ∷ []

-- a module that is skipped: its text is too large, or no tree spells its text
abbrev pub skipped_for : ℕ → Remark
skipped_for n = if nat_lt limit n then remark.TooLarge else remark.NotInProfile

abbrev pub skip_noted : Bool → ℕ → List Noted
skip_noted skipped n = if skipped then record { offset = 0; remark = skipped_for n } ∷ [] else []

-- an entry owns the path
abbrev pub is_owned : List LockEntry → List ℕ → Bool
is_owned entries path = list_any (λ e. owns e.location path) entries

-- what is noted of a module, in order
abbrev pub noted_of : Files → List LockEntry → LoadedModule → List Noted
noted_of files entries m = ascending noted_order (
    lock_noted (is_owned entries m.path) ++ map own_noted (notes_of m.tree)
    ++ map missing_noted (filter_map (missing_by files m.path) (requires_of m.tree)) ++ skip_noted m.skipped (length m.text))

-- ---- the notes

-- what is noted of a module with this path and text, as it is printed
abbrev pub note_at : List ℕ → List ℕ → Noted → Note
note_at path text noted = record {
  path = path;
  place = Some (record { line = (place_at text noted.offset).line; column = (place_at text noted.offset).column });
  text = text_of noted.remark;
}

abbrev pub module_notes : Files → List LockEntry → LoadedModule → List Note
module_notes files entries m = map (note_at m.path (place_text m.text)) (noted_of files entries m)

-- a note of the location of an installed package
abbrev pub unversioned_note : List ℕ → Note
unversioned_note location = record { path = location; place = None; text = codes "no version" }

-- the notes of the modules, by their paths, and then of the installed packages without a version, by their locations
abbrev pub notes_owed : Files → List LockEntry → List Advisory → List LoadedModule → List Note
notes_owed files entries advisories modules =
    flat_map (module_notes files entries) modules ++ map unversioned_note (alarms.unversioned advisories entries)

-- ---- the same of what is loaded

abbrev pub all_noted : Bool → Loaded → List Noted
all_noted owned l = lock_noted owned ++ map own_noted l.summary.lists.notes ++ map missing_noted l.missing.items ++ skip_noted l.skipped (length l.text)

abbrev pub loaded_notes : List LockEntry → Loaded → List Note
loaded_notes entries l = map (note_at l.path (place_text l.text)) (ascending noted_order (all_noted (is_owned entries l.path) l))

abbrev pub all_notes : List LockEntry → List Advisory → List Loaded → List Note
all_notes entries advisories loaded = flat_map (loaded_notes entries) loaded ++ map unversioned_note (alarms.unversioned advisories entries)
