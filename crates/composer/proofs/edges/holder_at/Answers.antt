use Rattle.std.proofs.Common.{◌≡◌, [], ap, sym, ◌∙◌, get_or, rules, of_calls}
use Rattle.std.specs.Ordering.{nat_cmp}
use Rattle.std.proofs.lemmas.Fn.{always_returns_same}
use Rattle.std.proofs.lemmas.List.{get_or_default}
use Rattle.std.proofs.lemmas.List.Elements.{Contains-get_or}
use Rattle.flow_rules.specs.Flows.{require_order}
use Rattle.flow_rules.specs.declared.module.Require.{Require}
use Rattle.flow_rules.proofs.RuleLemmas.{is_searchable, not_missed, one_member, require_tied, require_total}
use Rattle.composer.proofs.OrderLemmas.{ranked_equal}
use Rattle.composer.proofs.edges.holder_at.Goals as goal

pub returns-in-Ok : goal.returns-in-Ok
returns-in-Ok c r stands offset =
    let xs = c.args.requires_.now in
    let asked : Require = record { offset = c.args.offset; spec = []; holder = 0 } in
    let at = c.in-Ok.ensures.position (λ s. nat_cmp s.offset c.args.offset) (always_returns_same _ _ _ (λ a r f k. search (rules, of_calls))) in
    let s = get_or xs c.in-Ok.place asked in
    let found : s.offset ≡ c.args.offset = ranked_equal s.offset c.args.offset (at asked) in
    let same : s ≡ r = one_member require_order require_total xs s r c.requires.sorted (Contains-get_or xs c.in-Ok.place asked c.in-Ok.ensures.bound) stands (require_tied s r (found ∙ sym offset)) in
    ap (λ (x : Require). x.holder) (get_or_default xs c.in-Ok.place _ asked c.in-Ok.ensures.bound ∙ same)

pub returns-in-Err : goal.returns-in-Err
returns-in-Err c r stands offset =
    let xs = c.args.requires_.now in
    let asked : Require = record { offset = c.args.offset; spec = []; holder = 0 } in
    let place = c.in-Err.ensures.position (λ s. nat_cmp s.offset c.args.offset) (always_returns_same _ _ _ (λ a r f k. search (rules, of_calls))) (is_searchable require_order require_total xs asked c.requires.sorted) in
    absurd (not_missed require_order require_total xs asked r c.in-Err.field-0 stands (require_tied r asked offset) place)
