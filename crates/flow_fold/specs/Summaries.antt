-- What is kept of a module for all applications that load it.
use Rattle.std.specs.Prelude.{ℕ, ◌≤◌, length}
use Rattle.flow_rules.specs.Constraints.{ModuleConstraints}
use Rattle.flow_rules.specs.Rules.{KeepsRules}

-- the lists of a module, whose flows stand for those that its text gives, and how many flows the text gives
pub record ModuleSummary : Type 0 where
  pub lists : ModuleConstraints
  pub made : ℕ

-- what every summary keeps: the rules of a module's lists, and no more flows than the text gives
pub record IsSummary (s : ModuleSummary) : Type 0 where
  pub rules : KeepsRules s.lists
  pub few : length s.lists.flows ≤ s.made
