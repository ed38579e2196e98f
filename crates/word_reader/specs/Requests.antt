-- What the words of the command line ask for.
use Rattle.std.specs.Prelude.{ℕ, Bool, true, false, not, is_some, List, [], ◌∷◌, ◌++◌, length, Option, Some, None, ◌==◌, ◌&&◌, if◌then◌else◌, codes}
use Rattle.std.specs.Option.{option_and_then, option_map}
use Rattle.std.specs.Str.{bytes_eq}
use Rattle.lock_reader.specs.Texts.{after_front}
use Rattle.word_reader.specs.declared.table.Command.{Command}
use Rattle.word_reader.specs.declared.table.Command.TheVariants as command
use Rattle.word_reader.specs.declared.table.Choice.{Choice}
use Rattle.word_reader.specs.declared.table.Choice.TheVariants as choice

-- what canonical words ask for
pub record Asked : Type 0 where
  pub command : Command
  pub operand : List ℕ
  pub entry : Option (List ℕ)
  pub json : Bool
  pub skip_refused : Bool

-- ---- the table

abbrev pub command_word : Command → List ℕ
command_word command.Audit = codes "audit"
command_word command.Graph = codes "graph"

abbrev pub choice_word : Choice → List ℕ
choice_word choice.Entry = codes "--entry"
choice_word choice.Format = codes "--format"
choice_word choice.SkipRefused = codes "--skip-refused"

-- a command has an option
abbrev pub has_choice : Command → Choice → Bool
has_choice command.Audit choice = true
has_choice command.Graph choice.Entry = false
has_choice command.Graph choice.Format = false
has_choice command.Graph choice.SkipRefused = true

abbrev pub command_of : List ℕ → Option Command
command_of word =
    if bytes_eq word (command_word command.Audit) then Some command.Audit
    else if bytes_eq word (command_word command.Graph) then Some command.Graph
    else None

abbrev pub choice_of : List ℕ → Option Choice
choice_of word =
    if bytes_eq word (choice_word choice.Entry) then Some choice.Entry
    else if bytes_eq word (choice_word choice.Format) then Some choice.Format
    else if bytes_eq word (choice_word choice.SkipRefused) then Some choice.SkipRefused
    else None

-- ---- words

-- an operand, or a value in a word of its own, isn't empty and doesn't begin with `-`
abbrev pub is_operand : List ℕ → Bool
is_operand [] = false
is_operand (b ∷ word) = not (b == 45)

-- the value of an option that stands behind `=` in its word
abbrev pub value_behind : Choice → List ℕ → Option (List ℕ)
value_behind choice word = option_and_then (after_front (61 ∷ [])) (after_front (choice_word choice) word)

-- whether a format is JSON, if it is a format
abbrev pub is_json : List ℕ → Option Bool
is_json name = if bytes_eq name (codes "json") then Some true else if bytes_eq name (codes "text") then Some false else None

-- ---- what is said, word by word

-- what some words say; an option may await its value
pub record Said : Type 0 where
  pub command : Command
  pub operand : Option (List ℕ)
  pub entry : Option (List ℕ)
  pub json : Option Bool
  pub skip_refused : Bool
  pub awaited : Option Choice

abbrev pub first_said : Command → Said
first_said command = record { command = command; operand = None; entry = None; json = None; skip_refused = false; awaited = None }

abbrev pub said_first : List ℕ → Option Said
said_first word = option_map first_said (command_of word)

-- each of these is said once at most
abbrev pub with_operand : Said → List ℕ → Option Said
with_operand said word = if is_some said.operand then None else Some (record said { operand = Some word })

abbrev pub with_entry : Said → List ℕ → Option Said
with_entry said value = if is_some said.entry then None else Some (record said { entry = Some value; awaited = None })

abbrev pub said_format : Said → Bool → Said
said_format said json = record said { json = Some json; awaited = None }

abbrev pub with_format : Said → List ℕ → Option Said
with_format said value = if is_some said.json then None else option_map (said_format said) (is_json value)

abbrev pub skipping : Said → Option Said
skipping said = if said.skip_refused then None else Some (record said { skip_refused = true })

-- the value of an option
abbrev pub with_value : Choice → Said → List ℕ → Option Said
with_value choice.Entry said value = with_entry said value
with_value choice.Format said value = with_format said value
with_value choice.SkipRefused said value = None

abbrev pub with_written : Choice → Said → List ℕ → Option Said
with_written choice said [] = None
with_written choice said (b ∷ value) = if has_choice said.command choice then with_value choice said (b ∷ value) else None

-- an option alone in its word: one that takes a value awaits it
abbrev pub chosen : Choice → Said → Option Said
chosen choice.Entry said = Some (record said { awaited = Some choice.Entry })
chosen choice.Format said = Some (record said { awaited = Some choice.Format })
chosen choice.SkipRefused said = skipping said

abbrev pub with_choice : Choice → Said → Option Said
with_choice choice said = if has_choice said.command choice then chosen choice said else None

-- an option whose value stands in its word
abbrev pub with_assigned : Said → List ℕ → Option Said
with_assigned said word = elim (value_behind choice.Entry word) [
  | Some value ↦ with_written choice.Entry said value
  | None ↦ option_and_then (with_written choice.Format said) (value_behind choice.Format word)
]

abbrev pub with_awaited : Choice → Said → List ℕ → Option Said
with_awaited choice said word = if is_operand word then with_value choice said word else None

abbrev pub with_free : Said → List ℕ → Option Said
with_free said word =
    if is_operand word then with_operand said word
    else elim (choice_of word) [ Some choice ↦ with_choice choice said | None ↦ with_assigned said word ]

abbrev pub with_word : Said → List ℕ → Option Said
with_word said word = elim said.awaited [ Some choice ↦ with_awaited choice said word | None ↦ with_free said word ]

abbrev pub read_words : Said → List (List ℕ) → Option Said
read_words said [] = Some said
read_words said (word ∷ words) = option_and_then (λ more. read_words more words) (with_word said word)

-- ---- the request

abbrev pub asked_with : Said → List ℕ → Asked
asked_with said operand = record {
  command = said.command;
  operand = operand;
  entry = said.entry;
  json = elim said.json [ None ↦ false | Some json ↦ json ];
  skip_refused = said.skip_refused;
}

-- what all words ask for, where no option awaits its value and there is an operand
abbrev pub asked_by : Said → Option Asked
asked_by said = if is_some said.awaited then None else option_map (asked_with said) said.operand

-- what words ask for, if they are canonical: a command, and behind it its options, each at most once, and one operand, in any order
abbrev pub canonical_request : List (List ℕ) → Option Asked
canonical_request [] = None
canonical_request (word ∷ words) = option_and_then asked_by (option_and_then (λ said. read_words said words) (said_first word))

-- the entry that a command begins with: the one that `audit` is given, if any, and the operand of `graph`
abbrev pub entry_asked : Command → List ℕ → Option (List ℕ) → Option (List ℕ)
entry_asked command.Audit operand entry = entry
entry_asked command.Graph operand entry = Some operand
