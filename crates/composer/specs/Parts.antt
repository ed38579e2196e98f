-- What the composition of parts asks of them, and of the links between them.
use Rattle.std.specs.Prelude.{◌≡◌, ℕ, ◌<◌, List, length, map, All, Contains, slice_get, Some}
use Rattle.std.specs.Cmp.Lexicographic.{slice_cmp}
use Rattle.std.specs.List.Sorted.{IsStrictlySortedBy}
use Rattle.std.specs.Ordering.{nat_cmp, on, then_cmp}
use Rattle.std.specs.declared.cmp.Ordering.{Ordering}
use Rattle.flow_rules.specs.Constraints.{ModuleConstraints}
use Rattle.flow_rules.specs.declared.module.Require.{Require}
use Rattle.composer.specs.declared.application.Link.{Link}
use Rattle.composer.specs.declared.application.Part.{Part}

-- what the parts say of their values, as their summaries have it
abbrev pub lists_of : List Part → List ModuleConstraints
lists_of parts = map (λ (p : Part). p.summary.lists) parts

-- the parts go by their paths, which go by their bytes
abbrev pub AreByPath : List Part → Type 0
AreByPath parts = IsStrictlySortedBy (slice_cmp nat_cmp) (map (λ (p : Part). p.path) parts)

-- links go by their modules, and then by their offsets
abbrev pub link_order : Link → Link → Ordering
link_order = then_cmp (on (λ l. l.module) nat_cmp) (on (λ l. l.offset) nat_cmp)

-- the link names a require of its module, and a module that it gives
pub record IsNamed (modules : List ModuleConstraints) (link : Link) : Type 0 where
  pub constraints : ModuleConstraints
  pub here : slice_get modules link.module ≡ Some constraints
  pub require : Require
  pub stands : Contains constraints.requires_ require
  pub offset : require.offset ≡ link.offset
  pub target : link.target < length modules

-- the links ascend, so that a require has one at most, and each names its require
pub record AreLinks (modules : List ModuleConstraints) (links : List Link) : Type 0 where
  pub sorted : IsStrictlySortedBy link_order links
  pub named : All (IsNamed modules) links
