-- The rounds in which the modules of an application are loaded.
use Rattle.std.specs.Prelude.{◌≡◌, ◌↔◌, ◌≤◌, ℕ, ◌+◌, zero, suc, Bool, true, List, [], ◌∷◌, ◌++◌, length, map, All, Contains, slice_get, Some, unwrap_or}
use Rattle.std.specs.List.Sorted.{IsStrictlySortedBy}
use Rattle.std.specs.Cmp.Lexicographic.{slice_cmp}
use Rattle.std.specs.Ordering.{nat_cmp}
use Rattle.std.specs.FinMap as finite
use Rattle.jam_base.specs.Files.{Files}
use Rattle.jam_base.specs.Source.{source_of}
use Rattle.js_tree.specs.Spells.{Spells}
use Rattle.js_tree.specs.declared.tree.Tree.{Tree}
use Rattle.flow_rules.specs.declared.module.Require.{Require}
use Rattle.flow_rules.specs.Flows.{requires_of}
use Rattle.node_resolve.specs.declared.target.Target.TheVariants.{Module}
use Rattle.node_resolve.specs.Targets.{target_of}
use Rattle.composer.specs.declared.application.Link.{Link}
use Rattle.jam_app.specs.Texts.{IsBad, empty_tree}

-- the bytes of the file at a path, none where there is no file
abbrev pub bytes_at : Files → List ℕ → List ℕ
bytes_at files path = unwrap_or (finite.get files path) []

-- the text that they are read as
abbrev pub text_at : Files → List ℕ → List ℕ
text_at files path = source_of (bytes_at files path)

-- the tree of a module with this text: the one that spells it, and the empty one where none does
pub data IsTreeOf (text : List ℕ) (tree : Tree) : Type 0 where
  spelled : Spells text tree → IsTreeOf text tree
  bad : IsBad text → tree ≡ empty_tree → IsTreeOf text tree

-- a require of the module at a path has the module at the target as its target
pub record IsRequired (files : Files) (path target : List ℕ) : Type 0 where
  pub tree : Tree
  pub tree_is : IsTreeOf (text_at files path) tree
  pub require : Require
  pub here : Contains (requires_of tree) require
  pub target_is : target_of files path require.spec ≡ Module target

-- a module among these requires it
abbrev pub IsRequiredAmong : Files → List (List ℕ) → List ℕ → Type 0
IsRequiredAmong files paths target = (path : List ℕ) × Contains paths path × IsRequired files path target

-- paths ascend by their bytes
abbrev pub Ascend : List (List ℕ) → Type 0
Ascend paths = IsStrictlySortedBy (slice_cmp nat_cmp) paths

-- the round behind the last one: by path, the modules that the last one requires and that stand in no earlier round
pub record IsNextRound (files : Files) (before last next : List (List ℕ)) : Type 0 where
  pub sorted : Ascend next
  pub here : (path : List ℕ) → Contains next path ↔ (IsRequiredAmong files last path × (Contains (before ++ last) path → ⊥))

-- round k of the entry, and the modules of all rounds before it, one round behind another: round 0 has the entry alone
abbrev pub IsRound : Files → List ℕ → ℕ → List (List ℕ) → List (List ℕ) → Type 0
IsRound files entry zero before round = (before ≡ []) × (round ≡ entry ∷ [])
IsRound files entry (suc k) before round =
    (earlier : List (List ℕ)) × (last : List (List ℕ)) × IsRound files entry k earlier last × (before ≡ earlier ++ last) × IsNextRound files earlier last round

-- the module at the path is loaded: it stands in a round
pub record IsLoaded (files : Files) (entry path : List ℕ) : Type 0 where
  pub number : ℕ
  pub before : List (List ℕ)
  pub round : List (List ℕ)
  pub is_round : IsRound files entry number before round
  pub here : Contains round path

-- a loaded module: its path, the text of its file, its tree, and whether it is skipped
pub record LoadedModule : Type 0 where
  pub path : List ℕ
  pub text : List ℕ
  pub tree : Tree
  pub skipped : Bool

-- it is the module of the file at its path, and skipped exactly where no tree spells its text
pub record IsModuleOf (files : Files) (m : LoadedModule) : Type 0 where
  pub text : m.text ≡ text_at files m.path
  pub tree : IsTreeOf m.text m.tree
  pub skipped : (m.skipped ≡ true) ↔ IsBad m.text

-- the modules of the application with this entry, by their paths
pub record IsApplication (files : Files) (entry : List ℕ) (modules : List LoadedModule) : Type 0 where
  pub sorted : Ascend (map (λ m. m.path) modules)
  pub loaded : (path : List ℕ) → Contains (map (λ m. m.path) modules) path ↔ IsLoaded files entry path
  pub modules_are : All (IsModuleOf files) modules

-- a link: a require of the module has the other module as its target
pub record IsLink (files : Files) (modules : List LoadedModule) (link : Link) : Type 0 where
  pub from : LoadedModule
  pub to : LoadedModule
  pub here : slice_get modules link.module ≡ Some from
  pub there : slice_get modules link.target ≡ Some to
  pub require : Require
  pub stands : Contains (requires_of from.tree) require
  pub offset : require.offset ≡ link.offset
  pub target_is : target_of files from.path require.spec ≡ Module to.path

-- the links of the application
abbrev pub AreLinks : Files → List LoadedModule → List Link → Type 0
AreLinks files modules links = (link : Link) → Contains links link ↔ IsLink files modules link

-- how many bytes the texts have together
abbrev pub total_bytes : Files → List (List ℕ) → ℕ
total_bytes files [] = 0
total_bytes files (path ∷ paths) = length (text_at files path) + total_bytes files paths

-- how many modules an application may have, and how many bytes
abbrev pub module_limit : ℕ
module_limit = 16384

abbrev pub byte_limit : ℕ
byte_limit = 67108864

-- so many modules, and so many bytes, are allowed
pub record Fits (files : Files) (paths : List (List ℕ)) : Type 0 where
  pub modules : length paths ≤ module_limit
  pub bytes : total_bytes files paths ≤ byte_limit

-- each has a tree
abbrev pub NoneBad : Files → List (List ℕ) → Type 0
NoneBad files paths = All (λ path. IsBad (text_at files path) → ⊥) paths
