-- What stands from one round to the next.
use Rattle.std.specs.Prelude.{◌≡◌, ℕ, Bool, false, List, Contains, Some, ◌↔◌, Option, IsSome}
use Rattle.jam_app.specs.declared.loading.loaded.Loaded.{Loaded}
use Rattle.jam_app.specs.Rounds.{text_at, IsRound, NoneBad}
use Rattle.std.specs.BTreeMap as tree
use Rattle.std.specs.Cmp.Lexicographic.{slice_cmp}
use Rattle.std.specs.Ordering.{nat_cmp}
use Rattle.jam_base.specs.Files.{Files}
use Rattle.jam_app.specs.declared.loading.rounds.Progress.{Progress}
use Rattle.jam_app.specs.Entries.{Start, entry_path}
use Rattle.jam_app.specs.Loading.{IsAnalysed, IsKept}
use Rattle.jam_app.specs.Reading.{size_of}

-- the loaded module at a path
abbrev pub found_at : tree.BTreeMap (List ℕ) Loaded → List ℕ → Option Loaded
found_at modules path = tree.get (slice_cmp nat_cmp) modules path

-- under each path stands a module with that path, which has its tree and its constraints
abbrev pub HoldsAnalysed : tree.BTreeMap (List ℕ) Loaded → Type 0
HoldsAnalysed modules = (path : List ℕ) (l : Loaded) → found_at modules path ≡ Some l → (l.path ≡ path) × IsAnalysed l

-- the module under the path is the one of the file there
pub record IsHeld (skip : Bool) (files : Files) (path : List ℕ) (l : Loaded) : Type 0 where
  pub at : l.path ≡ path
  pub text : l.text ≡ text_at files l.path
  pub kept : IsKept skip files l

-- all rounds before this one are loaded, within the limits, and without a bad module where these aren't skipped
pub record Stands (start : Start) (files : Files) (progress : Progress) (round : List (List ℕ)) : Type 0 where
  pub entry : List ℕ
  pub found : entry_path start.entry files ≡ Some entry
  pub number : ℕ
  pub before : List (List ℕ)
  pub is_round : IsRound files entry number before round
  pub none_bad : start.skip ≡ false → NoneBad files before
  pub size : progress.size ≡ size_of files before
  pub here : (path : List ℕ) → IsSome (found_at progress.modules path) ↔ Contains before path
  pub held : (path : List ℕ) (l : Loaded) → found_at progress.modules path ≡ Some l → IsHeld start.skip files path l
