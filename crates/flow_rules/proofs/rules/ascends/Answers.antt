use Rattle.std.proofs.Common.{rules, of_calls}
use Rattle.std.proofs.lemmas.Fn.{always_returns_same}
use Rattle.std.specs.Ordering.{is_lt}
use Rattle.flow_rules.proofs.RuleLemmas.{ascends_by_test}
use Rattle.flow_rules.proofs.rules.ascends.Goals as goal

pub returns : goal.returns
returns g c =
    ascends_by_test g.T.Ranked.order g.met.T.Ranked.total c.args.items.now c.is_sorted_by.result
    (c.is_sorted_by.ensures.cases (λ x y. is_lt (g.T.Ranked.order x y)) (always_returns_same _ _ _ (λ a r f k. search (rules, of_calls))))
