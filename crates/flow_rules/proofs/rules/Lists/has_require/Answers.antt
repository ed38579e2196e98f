use Rattle.std.proofs.Common.{[], rules, of_calls, get_or, refl, subst}
use Rattle.std.specs.Ordering.{nat_cmp}
use Rattle.std.proofs.lemmas.Fn.{always_returns_same}
use Rattle.std.proofs.lemmas.List.Elements.{Contains-get_or}
use Rattle.flow_rules.specs.declared.module.Require.{Require}
use Rattle.flow_rules.specs.Flows.{require_order}
use Rattle.flow_rules.specs.Rules.{HasRequire}
use Rattle.flow_rules.proofs.Order.{ranked_equal}
use Rattle.flow_rules.proofs.RuleLemmas.{is_searchable, not_missed, require_tied, require_total}
use Rattle.flow_rules.proofs.rules.Lists.has_require.Goals as goal

pub returns-in-Ok : goal.returns-in-Ok
returns-in-Ok c =
    let xs = c.self.inside.requires_.now in
    let asked : Require = record { offset = c.args.offset; spec = []; holder = 0 } in
    let r = get_or xs c.in-Ok.field-0 asked in
    let at = c.in-Ok.ensures.position (λ s. nat_cmp s.offset c.args.offset) (always_returns_same _ _ _ (λ a r f k. search (rules, of_calls))) in
    (λ _. subst (λ m. HasRequire m c.args.offset) c.self.view_is (r, Contains-get_or xs c.in-Ok.field-0 asked c.in-Ok.ensures.bound, ranked_equal r.offset c.args.offset (at asked)), λ _. refl)

pub returns-in-Err : goal.returns-in-Err
returns-in-Err c =
    let xs = c.self.inside.requires_.now in
    let asked : Require = record { offset = c.args.offset; spec = []; holder = 0 } in
    let place = c.in-Err.ensures.position (λ s. nat_cmp s.offset c.args.offset) (always_returns_same _ _ _ (λ a r f k. search (rules, of_calls))) (is_searchable require_order require_total xs asked c.self.invariant.requires_) in
    let none = subst (λ m. HasRequire m c.args.offset → ⊥) c.self.view_is
    (λ h. not_missed require_order require_total xs asked h.0 c.in-Err.field-0 h.1 (require_tied h.0 asked h.2) place) in
    (λ e. search rules, λ h. absurd (none h))
