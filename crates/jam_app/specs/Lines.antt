-- The line that a run writes on the error output.
use Rattle.std.specs.Prelude.{◌≡◌, ◌⊎◌, ℕ, List, [], ◌++◌, codes}
use Rattle.std.specs.Fmt.{decimal}
use Rattle.js_tree.specs.Spells.{limit}
use Rattle.jam_base.specs.declared.place.Place.{Place}
use Rattle.js_parser.specs.Answers.{word_of}
use Rattle.js_parser.specs.declared.fault.Construct.{Construct as AnyConstruct}
use Rattle.report_text.specs.Escape.{escaped}
use Rattle.jam_app.specs.declared.answers.line.Line.{Line}
use Rattle.jam_app.specs.declared.answers.line.Line.TheVariants.{Nothing, Fixed, Made}
use Rattle.jam_app.specs.declared.answers.refusal.Refusal.{Refusal}
use Rattle.jam_app.specs.declared.answers.refusal.Refusal.TheVariants.{NoLock, Lock, NoAdvisories, Advisory, NoEntry, TooMany, TooLarge, Construct, NotInProfile, TooWide}
use Rattle.lock_reader.specs.declared.fault.LockFault.{LockFault}
use Rattle.lock_reader.specs.declared.fault.LockFault.TheVariants as lock_fault
use Rattle.advisory_reader.specs.declared.fault.AdvisoryFault.{AdvisoryFault}
use Rattle.advisory_reader.specs.declared.fault.AdvisoryFault.TheVariants as advisory_fault
use Rattle.advisory_reader.specs.declared.fault.Field.{Field}
use Rattle.advisory_reader.specs.declared.fault.Field.TheVariants as field
use Rattle.jam_app.specs.AuditFiles.{lock_name, shrinkwrap}
use Rattle.jam_app.specs.declared.answers.status.Status.{Status}
use Rattle.jam_app.specs.declared.answers.status.Status.TheVariants.{Clean, Alarms, Refused, ReadFault, WriteFault, NoMemory, Usage}

abbrev pub text_of : Line → List ℕ
text_of Nothing = []
text_of (Fixed text) = text.now
text_of (Made text) = text

abbrev pub read_failed : List ℕ
read_failed = codes "jam: read failed\n"

abbrev pub write_failed : List ℕ
write_failed = codes "jam: write failed\n"

abbrev pub out_of_memory : List ℕ
out_of_memory = codes "jam: out of memory\n"

abbrev pub no_entry : List ℕ
no_entry = codes "jam: no entry\n"

abbrev pub too_many_line : ℕ → ℕ → List ℕ
too_many_line modules bytes = codes "jam: too many: " ++ (decimal modules ++ (codes " modules, " ++ (decimal bytes ++ codes " bytes\n")))

abbrev pub too_large_text : List ℕ → ℕ → List ℕ
too_large_text printed n = codes "jam: " ++ (printed ++ (codes ": " ++ (decimal n ++ (codes " bytes, more than " ++ (decimal limit ++ codes "\n")))))

abbrev pub too_large_line : List ℕ → ℕ → List ℕ
too_large_line path n = too_large_text (escaped path) n

abbrev pub place_text : List ℕ → ℕ → ℕ → List ℕ
place_text path line column = escaped path ++ (codes ":" ++ (decimal line ++ (codes ":" ++ decimal column)))

abbrev pub construct_line : List ℕ → ℕ → ℕ → AnyConstruct → List ℕ
construct_line path line column what = codes "jam: " ++ (place_text path line column ++ (codes ": " ++ (word_of what ++ codes "\n")))

abbrev pub not_in_profile_line : List ℕ → ℕ → ℕ → List ℕ
not_in_profile_line path line column = codes "jam: " ++ (place_text path line column ++ codes ": not in the profile\n")

abbrev pub too_wide_line : ℕ → List ℕ
too_wide_line size = codes "jam: too wide: " ++ (decimal size ++ codes "\n")

-- ---- the files of `audit`

abbrev pub no_lock : List ℕ
no_lock = codes "jam: no lockfile\n"

abbrev pub no_advisories : List ℕ
no_advisories = codes "jam: no advisory file\n"

abbrev pub not_json_line : List ℕ → List ℕ
not_json_line name = codes "jam: " ++ (name ++ codes ": not JSON\n")

abbrev pub shape_text : List ℕ → List ℕ → List ℕ
shape_text name printed = codes "jam: " ++ (name ++ (codes ": wrong shape at " ++ (printed ++ codes "\n")))

abbrev pub shape_line : List ℕ → List ℕ → List ℕ
shape_line name place = shape_text name (escaped place)

abbrev pub version_line : List ℕ → ℕ → List ℕ
version_line name found = codes "jam: " ++ (name ++ (codes ": lockfileVersion " ++ (decimal found ++ codes "\n")))

abbrev pub field_name : Field → List ℕ
field_name field.Id = codes "id"
field_name field.Package = codes "package"
field_name field.Range = codes "range"
field_name field.Functions = codes "functions"

abbrev pub field_line : ℕ → Field → List ℕ
field_line index field = codes "jam: advisory " ++ (decimal index ++ (codes ": " ++ (field_name field ++ codes "\n")))

abbrev pub range_line : ℕ → ℕ → List ℕ
range_line index at = codes "jam: advisory " ++ (decimal index ++ (codes ": range at " ++ (decimal at ++ codes "\n")))

-- the name is one that a lockfile has
abbrev pub IsLockName : List ℕ → Type 0
IsLockName name = (name ≡ shrinkwrap) ⊎ (name ≡ lock_name)

-- what is written of a lockfile of this name; want of memory is no refusal
abbrev pub IsLockText : List ℕ → LockFault → List ℕ → Type 0
IsLockText name lock_fault.NotJson text = text ≡ not_json_line name
IsLockText name (lock_fault.Shape place) text = text ≡ shape_line name place
IsLockText name (lock_fault.Version found) text = text ≡ version_line name found
IsLockText name lock_fault.OutOfMemory text = text ≡ []

abbrev pub IsAdvisoryText : AdvisoryFault → List ℕ → Type 0
IsAdvisoryText advisory_fault.NotJson text = text ≡ codes "jam: advisories: not JSON\n"
IsAdvisoryText advisory_fault.Shape text = text ≡ codes "jam: advisories: wrong shape\n"
IsAdvisoryText (advisory_fault.Field index field) text = text ≡ field_line index field
IsAdvisoryText (advisory_fault.Range index at) text = text ≡ range_line index at
IsAdvisoryText advisory_fault.OutOfMemory text = text ≡ []

-- ---- all refusals

-- what is written of a refusal
abbrev pub IsRefusalText : Refusal → List ℕ → Type 0
IsRefusalText NoLock text = text ≡ no_lock
IsRefusalText (Lock fault) text = (name : List ℕ) × IsLockName name × IsLockText name fault text
IsRefusalText NoAdvisories text = text ≡ no_advisories
IsRefusalText (Advisory fault) text = IsAdvisoryText fault text
IsRefusalText NoEntry text = text ≡ no_entry
IsRefusalText (TooMany modules bytes) text = text ≡ too_many_line modules bytes
IsRefusalText (TooLarge path n) text = text ≡ too_large_line path n
IsRefusalText (Construct path at what) text = (place : Place) × (place.offset ≡ at) × (text ≡ construct_line path place.line place.column what)
IsRefusalText (NotInProfile path at) text = (place : Place) × (place.offset ≡ at) × (text ≡ not_in_profile_line path place.line place.column)
IsRefusalText (TooWide size) text = text ≡ too_wide_line size

-- the line says why the request is refused, where there was memory for it
abbrev pub TellsRefusal : Refusal → Line → Type 0
TellsRefusal refusal Nothing = Unit {0}
TellsRefusal refusal (Fixed text) = IsRefusalText refusal text.now
TellsRefusal refusal (Made text) = IsRefusalText refusal text

-- the line that goes with a status
abbrev pub TellsStatus : Status → Line → Type 0
TellsStatus Clean line = text_of line ≡ []
TellsStatus Alarms line = text_of line ≡ []
TellsStatus (Refused refusal) line = TellsRefusal refusal line
TellsStatus ReadFault line = text_of line ≡ read_failed
TellsStatus WriteFault line = text_of line ≡ write_failed
TellsStatus NoMemory line = text_of line ≡ out_of_memory
TellsStatus Usage line = text_of line ≡ []

-- what a status says of the error output, where it takes a text: nothing after success, the line, or after a usage some text
abbrev pub IsTold : (List ℕ → Type 0) → Status → Type 0
IsTold takes Clean = takes []
IsTold takes Alarms = takes []
IsTold takes (Refused refusal) = (text : List ℕ) × IsRefusalText refusal text × takes text
IsTold takes ReadFault = takes read_failed
IsTold takes WriteFault = takes write_failed
IsTold takes NoMemory = takes out_of_memory
IsTold takes Usage = (text : List ℕ) × takes text
