-- Which summaries stand for a module.
use Rattle.std.specs.Prelude.{◌≡◌, ◌↔◌, ◌≤◌, length}
use Rattle.flow_rules.specs.Constraints.{ModuleConstraints}
use Rattle.flow_rules.specs.declared.vertex.Vertex.{Vertex}
use Rattle.flow_fold.specs.Pairs.{IsPair}
use Rattle.flow_fold.specs.Summaries.{ModuleSummary}

-- the summary has the module's functions, sites, requires and notes and the same pairs of interface vertices, it tells how many flows the module has, and it has no more
pub record Folds (c : ModuleConstraints) (s : ModuleSummary) : Type 0 where
  pub functions : s.lists.functions ≡ c.functions
  pub sites : s.lists.sites ≡ c.sites
  pub requires_ : s.lists.requires_ ≡ c.requires_
  pub notes : s.lists.notes ≡ c.notes
  pub made : s.made ≡ length c.flows
  pub pairs : (v w : Vertex) → IsPair s.lists.flows v w ↔ IsPair c.flows v w
  pub few : length s.lists.flows ≤ s.made
