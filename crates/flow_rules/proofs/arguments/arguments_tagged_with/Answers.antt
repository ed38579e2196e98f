use Rattle.std.proofs.Common.{◌≡◌, [], ◌∷◌, ◌++◌, None, ap, rules, ◌∙◌}
use Rattle.js_tree.specs.declared.lists.Listed.{Listed}
use Rattle.js_tree.specs.declared.tree.Expr.{Expr}
use Rattle.flow_rules.specs.declared.arguments.Argument.TheVariants as argument
use Rattle.flow_rules.specs.AtHand.{facts_in}
use Rattle.flow_rules.specs.Values.{value}
use Rattle.flow_rules.proofs.RowItems.{more_made}
use Rattle.flow_rules.proofs.arguments.arguments_tagged_with.Goals as goal

pub loop-listed-preserved : goal.loop-listed-preserved
loop-listed-preserved c =
    let facts = facts_in c.args.facts.now in
    let f = λ (x : Listed Expr). argument.Plain (value facts x.item) in
    let pushed : c.push-in-loop-listed.new.self.items ≡ c.loop-listed.found.items ++ argument.Plain c.in_ok-value.value ∷ [] = search rules in
    record {
      all = c.loop-listed.invariant.all;
      made = more_made f (argument.Plain None ∷ []) c.as_slice-listed-items.result.now c.loop-listed.listed-index c.listed-item.result c.loop-listed-test.true c.loop-listed.found.items c.push-in-loop-listed.new.self.items
          (argument.Plain c.in_ok-value.value) c.loop-listed.invariant.made pushed (ap argument.Plain (c.in_ok-value.ensures {u = tt} ∙ ap (value facts) c.get.ensures) ∙ ap f c.listed-item.is);
    }
