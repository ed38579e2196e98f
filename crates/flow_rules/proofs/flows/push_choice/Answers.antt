use Rattle.std.proofs.Common.{◌++◌, ap, ◌∙◌}
use Rattle.js_tree.specs.declared.lists.Arm.{Arm}
use Rattle.js_tree.specs.declared.tree.Expr.{Expr}
use Rattle.js_scopes.proofs.Steps.{pushed_more}
use Rattle.flow_rules.specs.AtHand.{facts_in}
use Rattle.flow_rules.specs.Flows.{joined_flow}
use Rattle.flow_rules.proofs.flows.push_choice.Goals as goal

pub loop-arm-preserved : goal.loop-arm-preserved
loop-arm-preserved c =
    let joins = joined_flow (facts_in c.args.facts.now) c.choice_mark-mark.result in
    let so_far = c.loop-arm.out.items in
    let f = λ (x : Arm Expr). joins x.value in
    pushed_more f c.args.out.now.items so_far c.push_joined.new.out.items c.args.arms.now c.loop-arm.arm-index c.arm-item.result c.loop-arm-test.true c.loop-arm.invariant
    (c.in_ok-push_joined.ensures {u = tt} ∙ ap (λ x. so_far ++ joins x) c.get.ensures ∙ ap (λ x. so_far ++ f x) c.arm-item.is)
