-- The entry of an application, and what is to be loaded.
use Rattle.std.specs.Prelude.{ℕ, Bool, List, Option, Some, None}
use Rattle.jam_base.specs.Files.{Files}
use Rattle.node_resolve.specs.declared.target.Target.{Target}
use Rattle.node_resolve.specs.declared.target.Target.TheVariants as target
use Rattle.node_resolve.specs.Targets.{entry_target}
use Rattle.word_reader.specs.Requests.{Asked, entry_asked}

-- the path of a target that is a module
abbrev pub module_path : Target → Option (List ℕ)
module_path (target.Module path) = Some path
module_path (target.NotCode path) = None
module_path target.Core = None
module_path target.Missing = None

-- the path of the entry that a text names, or of that of the folder, over these files: its target, where that is a module
abbrev pub entry_path : Option (List ℕ) → Files → Option (List ℕ)
entry_path entry files = module_path (entry_target files entry)

-- what is to be loaded: the application of an entry, where modules without a tree are skipped or refused
pub record Start : Type 0 where
  pub entry : Option (List ℕ)
  pub skip : Bool

abbrev pub begun : Option (List ℕ) → Bool → Start
begun entry skip = record { entry = entry; skip = skip }

-- what a request is to load
abbrev pub start_of : Asked → Start
start_of asked = begun (entry_asked asked.command asked.operand asked.entry) asked.skip_refused
