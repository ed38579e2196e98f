use Rattle.std.proofs.Common.{◌≡◌, ◌++◌, ap, append-nil, append_assoc, sym, ◌∙◌}
use Rattle.std.specs.List.{flat_map}
use Rattle.std.proofs.lemmas.List.{take_all}
use Rattle.js_tree.specs.declared.lists.Further.{Further}
use Rattle.js_tree.specs.declared.tree.Expr.{Expr}
use Rattle.js_scopes.proofs.Steps.{pushed_more}
use Rattle.flow_rules.specs.AtHand.{facts_in}
use Rattle.flow_rules.specs.Flows.{joined_flow, operands_flows}
use Rattle.flow_rules.specs.Values.{OR}
use Rattle.flow_rules.proofs.flows.push_operands.Goals as goal

pub loop-further-init : goal.loop-further-init
loop-further-init c = c.in_ok-push_joined.ensures {u = tt} ∙ sym (append-nil (c.args.out.now.items ++ joined_flow (facts_in c.args.facts.now) c.operator_mark-mark.result c.args.first.now))

pub loop-further-preserved : goal.loop-further-preserved
loop-further-preserved c =
    let joins = joined_flow (facts_in c.args.facts.now) c.operator_mark-mark.result in
    let so_far = c.loop-further.out.items in
    let f = λ (x : Further Expr). joins x.item in
    pushed_more f (c.args.out.now.items ++ joins c.args.first.now) so_far c.push_joined-in-loop-further.new.out.items c.args.rest.now c.loop-further.further-index c.further-item.result c.loop-further-test.true c.loop-further.invariant
    (c.in_ok-push_joined-2.ensures {u = tt} ∙ ap (λ x. so_far ++ joins x) c.get.ensures ∙ ap (λ x. so_far ++ f x) c.further-item.is)

pub returns : goal.returns
returns c =
    let facts = facts_in c.args.facts.now in
    let first = c.args.first.now in
    let rest = c.args.rest.now in
    let out = c.args.out.now.items in
    let mark = c.operator_mark-mark.result in
    let same : c.args.level ≡ OR = c.if-level-ne-OR.false in
    c.loop-further.invariant
    ∙ ap (λ xs. (out ++ joined_flow facts mark first) ++ flat_map (λ (x : Further Expr). joined_flow facts mark x.item) xs) (take_all c.loop-further.further-index rest c.loop-further-test.false)
    ∙ append_assoc out (joined_flow facts mark first) (flat_map (λ (x : Further Expr). joined_flow facts mark x.item) rest)
    ∙ ap (λ m. out ++ (joined_flow facts m first ++ flat_map (λ (x : Further Expr). joined_flow facts m x.item) rest)) c.operator_mark-mark.ensures
    ∙ ap (λ zs. out ++ zs) (sym (ap (λ k. operands_flows facts k first rest) same))
