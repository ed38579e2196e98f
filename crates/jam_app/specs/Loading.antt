-- What loading finds.
use Rattle.std.specs.Prelude.{◌≡◌, ◌↔◌, ℕ, Bool, List, Option, None, map, All, Contains, Some}
use Rattle.std.specs.List.Sorted.{IsStrictlySortedBy}
use Rattle.std.specs.Ordering.{nat_cmp, on}
use Rattle.std.specs.declared.cmp.Ordering.{Ordering}
use Rattle.flow_fold.specs.Folds.{Folds}
use Rattle.flow_fold.specs.Summaries.{ModuleSummary}
use Rattle.js_tree.specs.declared.tree.Tree.{Tree}
use Rattle.jam_base.specs.Files.{Files}
use Rattle.flow_rules.specs.declared.module.Require.{Require}
use Rattle.flow_rules.specs.Flows.{constraints_of, requires_of}
use Rattle.std.specs.List.{filter_map}
use Rattle.node_resolve.specs.declared.target.Target.{Target}
use Rattle.node_resolve.specs.declared.target.Target.TheVariants.{Module}
use Rattle.node_resolve.specs.declared.target.Target.TheVariants as target
use Rattle.node_resolve.specs.Targets.{target_of}
use Rattle.composer.specs.declared.application.Part.{Part}
use Rattle.composer.specs.Sizes.{size_of}
use Rattle.jam_app.specs.declared.loading.loaded.Led.{Led}
use Rattle.jam_app.specs.declared.loading.loaded.Loaded.{Loaded}
use Rattle.jam_app.specs.declared.loading.loaded.Missing.{Missing}
use Rattle.jam_app.specs.declared.answers.refusal.Refusal.{Refusal}
use Rattle.jam_app.specs.Entries.{Start, entry_path}
use Rattle.jam_app.specs.Refusals.{IsLoadRefusal}
use Rattle.jam_app.specs.Rounds.{LoadedModule, IsApplication}
use Rattle.jam_app.specs.Texts.{IsTheTree}

-- the module
abbrev pub module_of : Loaded → LoadedModule
module_of l = record { path = l.path; text = l.text; tree = l.tree; skipped = l.skipped }

-- the summary folds the constraints of the tree, and keeps their flows
pub record IsSummaryOf (tree : Tree) (s : ModuleSummary) : Type 0 where
  pub folds : Folds (constraints_of tree) s
  pub whole : s.lists ≡ constraints_of tree

-- requires that lead to modules go by their offsets
abbrev pub led_order : Led → Led → Ordering
led_order = on (λ (t : Led). t.offset) nat_cmp

-- each has the offset of one of the requires, and no two have one
pub record AreLed (requires_ : List Require) (targets : List Led) : Type 0 where
  pub ascend : IsStrictlySortedBy led_order targets
  pub named : All (λ led. (r : Require) × Contains requires_ r × (r.offset ≡ led.offset)) targets

-- this is the summary of the module's tree, and the targets are those of its requires
pub record IsAnalysed (l : Loaded) : Type 0 where
  pub summary : IsSummaryOf l.tree l.summary
  pub led : AreLed l.summary.lists.requires_ l.targets.items

-- the part that the module is of its application
abbrev pub part_of : Loaded → Part
part_of l = record { path = l.path; summary = l.summary }

-- how large the modules are together for their composition
abbrev pub loaded_size : List Loaded → ℕ
loaded_size loaded = size_of (map (λ (l : Loaded). l.summary.lists) loaded)

-- a require of the module leads there
pub record Leads (files : Files) (l : Loaded) (led : Led) : Type 0 where
  pub require : Require
  pub here : Contains (requires_of l.tree) require
  pub offset : require.offset ≡ led.offset
  pub target_is : target_of files l.path require.spec ≡ Module led.path

-- a require that has this target, if that is none
abbrev pub missing_of : Require → Target → Option Missing
missing_of require target.Missing = Some (record { offset = require.offset; spec = require.spec })
missing_of require (target.Module path) = None
missing_of require (target.NotCode path) = None
missing_of require target.Core = None

abbrev pub missing_by : Files → List ℕ → Require → Option Missing
missing_by files from require = missing_of require (target_of files from require.spec)

-- what is kept of the module: the tree that is worked with, its summary, the targets of its requires that are modules, and its requires that lead nowhere
pub record IsKept (skip : Bool) (files : Files) (l : Loaded) : Type 0 where
  pub tree : IsTheTree skip l.text l.tree l.skipped
  pub summary : IsSummaryOf l.tree l.summary
  pub targets : (led : Led) → Contains l.targets.items led ↔ Leads files l led
  pub missing : l.missing.items ≡ filter_map (missing_by files l.path) (requires_of l.tree)

-- the application of this entry is loaded, and loading owes no refusal
pub record IsWhole (start : Start) (files : Files) (entry : List ℕ) (loaded : List Loaded) : Type 0 where
  pub found : entry_path start.entry files ≡ Some entry
  pub application : IsApplication files entry (map module_of loaded)
  pub kept : All (IsKept start.skip files) loaded
  pub unrefused : (owed : Refusal) → IsLoadRefusal start files owed → ⊥
