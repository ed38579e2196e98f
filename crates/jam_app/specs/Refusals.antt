-- Why a request is refused.
use Rattle.std.specs.Prelude.{◌≡◌, ℕ, ◌+◌, ◌<◌, ◌≤◌, List, [], ◌∷◌, ◌++◌, length, drop, Some, None, false, nat_lt, if◌then◌else◌}
use Rattle.js_tree.specs.Lexing.{start_of as front_of}
use Rattle.js_tree.specs.Spells.{limit}
use Rattle.js_tokens.specs.Pieces.{IsStop}
use Rattle.js_parser.specs.Answers.{Begins}
use Rattle.js_parser.specs.declared.fault.Construct.{Construct}
use Rattle.jam_base.specs.Files.{Files}
use Rattle.jam_app.specs.Entries.{Start, entry_path, start_of}
use Rattle.jam_app.specs.Texts.{IsBad}
use Rattle.jam_app.specs.Rounds.{text_at, total_bytes, module_limit, IsApplication, IsRound, Fits, LoadedModule, NoneBad}
use Rattle.composer.specs.Sizes.{size_limit, size_of}
use Rattle.jam_app.specs.Graphs.{constraints_all}
use Rattle.lock_reader.specs.declared.lock.LockEntry.{LockEntry}
use Rattle.advisory_reader.specs.declared.advisory.Advisory.{Advisory}
use Rattle.jam_app.specs.AuditFiles.{HasAdvisories, HasLock, IsAdvisoryRefusal, IsLockRefusal}
use Rattle.word_reader.specs.Requests.{Asked}
use Rattle.word_reader.specs.declared.table.Command.{Command}
use Rattle.word_reader.specs.declared.table.Command.TheVariants as command
use Rattle.jam_app.specs.declared.answers.refusal.Refusal.{Refusal}
use Rattle.jam_app.specs.declared.answers.refusal.Refusal.TheVariants as refusal

-- where a text within the limit that no tree spells is refused: at the start of a token, at a character that begins none, or
-- at its end
abbrev pub IsRefusedAt : List ℕ → ℕ → Type 0
IsRefusedAt text at = IsStop (front_of text) at

-- where such a text is refused for a construct: the next token there is the construct's word
pub record IsConstructAt (text : List ℕ) (at : ℕ) (what : Construct) : Type 0 where
  pub refused : IsRefusedAt text at
  pub begins : Begins (drop at text) what

-- a module of a round, where no module of an earlier round is bad, or such modules are skipped: the modules of those rounds, those
-- in front of it in its own, and those behind it
pub record IsReached (start : Start) (files : Files) (before front : List (List ℕ)) (path : List ℕ) (behind : List (List ℕ)) : Type 0 where
  pub entry : List ℕ
  pub found : entry_path start.entry files ≡ Some entry
  pub number : ℕ
  pub is_round : IsRound files entry number before (front ++ path ∷ behind)
  pub none_bad : start.skip ≡ false → NoneBad files before

-- one module too many: those before it are within the limits, and it isn't
pub record IsOneTooMany (start : Start) (files : Files) (earlier : List (List ℕ)) (path : List ℕ) : Type 0 where
  pub before : List (List ℕ)
  pub front : List (List ℕ)
  pub behind : List (List ℕ)
  pub earlier_are : earlier ≡ before ++ front
  pub reached : IsReached start files before front path behind
  pub fit : Fits files earlier
  pub over : Fits files (earlier ++ path ∷ []) → ⊥

-- the bytes of the texts of modules up to one, where a module that is one too many adds none
abbrev pub counted_bytes : Files → List (List ℕ) → List ℕ → ℕ
counted_bytes files earlier path = total_bytes files earlier + (if nat_lt (length earlier) module_limit then length (text_at files path) else 0)

-- the first bad module of a round that is within the limits, where such modules aren't skipped
pub record IsFirstBad (start : Start) (files : Files) (path : List ℕ) : Type 0 where
  pub unskipped : start.skip ≡ false
  pub before : List (List ℕ)
  pub front : List (List ℕ)
  pub behind : List (List ℕ)
  pub reached : IsReached start files before front path behind
  pub fits : Fits files (before ++ front ++ path ∷ behind)
  pub none_bad : NoneBad files front
  pub bad : IsBad (text_at files path)

-- the refusal that loading owes over the files: no entry; else, round by round, a module too many, or the first bad one
pub data IsLoadRefusal (start : Start) (files : Files) : Refusal → Type 0 where
  no_entry : entry_path start.entry files ≡ None → IsLoadRefusal start files refusal.NoEntry
  too_many : (earlier : List (List ℕ)) (path : List ℕ) → IsOneTooMany start files earlier path
      → IsLoadRefusal start files (refusal.TooMany (length earlier + 1) (counted_bytes files earlier path))
  too_large : (path : List ℕ) → IsFirstBad start files path → limit < length (text_at files path)
      → IsLoadRefusal start files (refusal.TooLarge path (length (text_at files path)))
  construct : (path : List ℕ) (at : ℕ) (what : Construct) → IsFirstBad start files path → length (text_at files path) ≤ limit → IsConstructAt (text_at files path) at what
      → IsLoadRefusal start files (refusal.Construct path at what)
  not_in_profile : (path : List ℕ) (at : ℕ) → IsFirstBad start files path → length (text_at files path) ≤ limit → IsRefusedAt (text_at files path) at
      → IsLoadRefusal start files (refusal.NotInProfile path at)

-- the modules of the application, of which loading owes no refusal, have this size together whichever trees their texts have, and are too wide for their composition
pub record IsTooWide (start : Start) (files : Files) (size : ℕ) : Type 0 where
  pub entry : List ℕ
  pub found : entry_path start.entry files ≡ Some entry
  pub unrefused : (owed : Refusal) → IsLoadRefusal start files owed → ⊥
  pub modules : List LoadedModule
  pub application : IsApplication files entry modules
  pub size_is : (others : List LoadedModule) → IsApplication files entry others → size_of (constraints_all others) ≡ size
  pub over : size_limit ≤ size

-- what `audit` reads before the application is read as it should be; `graph` reads nothing
abbrev pub ReadsFiles : Command → List ℕ → Files → Type 0
ReadsFiles command.Audit operand files = (entries : List LockEntry) × (advisories : List Advisory) × HasLock files entries × HasAdvisories files operand advisories
ReadsFiles command.Graph operand files = Unit {0}

-- the refusal that a request owes over the files: for `audit` that of the lockfile, then that of the advisories; then that of loading, and last that the modules are too wide
pub data IsRefusal (asked : Asked) (files : Files) : Refusal → Type 0 where
  lock : (owed : Refusal) → asked.command ≡ command.Audit → IsLockRefusal files owed → IsRefusal asked files owed
  advisories : (owed : Refusal) (entries : List LockEntry) → asked.command ≡ command.Audit → HasLock files entries → IsAdvisoryRefusal files asked.operand owed → IsRefusal asked files owed
  load : (owed : Refusal) → ReadsFiles asked.command asked.operand files → IsLoadRefusal (start_of asked) files owed → IsRefusal asked files owed
  too_wide : (size : ℕ) → ReadsFiles asked.command asked.operand files → IsTooWide (start_of asked) files size → IsRefusal asked files (refusal.TooWide size)

-- the refusal but for the place at which a text outside the profile was left, and for the construct there
abbrev pub without_place : Refusal → Refusal
without_place refusal.NoLock = refusal.NoLock
without_place (refusal.Lock fault) = refusal.Lock fault
without_place refusal.NoAdvisories = refusal.NoAdvisories
without_place (refusal.Advisory fault) = refusal.Advisory fault
without_place refusal.NoEntry = refusal.NoEntry
without_place (refusal.TooMany modules bytes) = refusal.TooMany modules bytes
without_place (refusal.TooLarge path n) = refusal.TooLarge path n
without_place (refusal.Construct path at what) = refusal.NotInProfile path 0
without_place (refusal.NotInProfile path at) = refusal.NotInProfile path 0
without_place (refusal.TooWide size) = refusal.TooWide size
