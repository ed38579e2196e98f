use Rattle.std.proofs.Common.{◌≡◌, [], ◌∷◌, ◌++◌, ap, rules, ◌∙◌}
use Rattle.js_tree.specs.declared.lists.Element.{Element}
use Rattle.js_tree.specs.declared.lists.Listed.{Listed}
use Rattle.js_tree.specs.declared.tree.Expr.{Expr}
use Rattle.flow_rules.specs.AtHand.{facts_in}
use Rattle.flow_rules.specs.Calls.{argument_of}
use Rattle.flow_rules.proofs.RowItems.{more_made}
use Rattle.flow_rules.proofs.arguments.arguments_in_front.Goals as goal

pub loop-listed-preserved : goal.loop-listed-preserved
loop-listed-preserved c =
    let f = λ (x : Listed (Element Expr)). argument_of (facts_in c.args.facts.now) x.item in
    let pushed : c.push.new.self.items ≡ c.loop-listed.found.items ++ c.in_ok-argument_of.field-0 ∷ [] = search rules in
    more_made f [] c.args.front.now c.loop-listed.listed-index c.listed-item.result c.loop-listed-test.true c.loop-listed.found.items c.push.new.self.items c.in_ok-argument_of.field-0 c.loop-listed.invariant pushed
    (c.in_ok-argument_of.ensures {u = tt} ∙ ap f c.listed-item.is)
