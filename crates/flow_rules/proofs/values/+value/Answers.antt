use Rattle.std.proofs.Common.{◌≡◌, [], Some, None, ◌∷◌, ap, arith, refl, sym, ◌∙◌}
use Rattle.std.proofs.lemmas.Result.{IfOk-weaker}
use Rattle.js_tree.specs.declared.lists.Further.{Further}
use Rattle.js_tree.specs.declared.token_kind.TokenKind.TheVariants as kind
use Rattle.js_tree.specs.declared.tree.Expr.{Expr, out-Expr}
use Rattle.js_tree.specs.declared.tree.Expr.TheOpen.{Expr-F}
use Rattle.js_tree.specs.declared.tree.Expr.TheVariants.{outs-Assign, outs-Binary, outs-Chain, outs-Comma, outs-Paren}
use Rattle.js_tree.specs.Operators.{is_binary}
use Rattle.js_tree.specs.Parts.{AnExpr, APattern, height, tails_behind}
use Rattle.js_tree.specs.TokenKinds.{is}
use Rattle.js_tree.proofs.PartLemmas.{highest}
use Rattle.js_scopes.proofs.Layers.{is-Assign, is-Binary, is-Chain, is-Comma, is-Cond, is-Fun, is-Name, is-New, is-Paren}
use Rattle.flow_rules.specs.AtHand.{facts_in}
use Rattle.flow_rules.specs.Values.{assigned_value, choice_mark, front_of, function_vertex, joined_vertex, last_value, operands_value, tail_vertex, value, value_up_to}
use Rattle.flow_rules.proofs.ValueLemmas.{at-Assign, at-Binary, at-Chain, at-Comma, at-Cond, at-Fun, at-Name, at-New, at-Paren, at-others, last_by, lower, operand_nodes, operands_are, values_of}
use Rattle.flow_rules.proofs.values.+value.Goals as goal

pub value_of-returns-in-Name : goal.value_of-returns-in-Name
value_of-returns-in-Name t c =
    let facts = facts_in c.args.facts.now in
    IfOk-weaker c.token_vertex.result _ _ (λ v e. e ∙ sym (ap (value facts) c.in-Name.is ∙ at-Name facts c.in-Name.token)) c.token_vertex.ensures

pub value_of-returns-in-Paren : goal.value_of-returns-in-Paren
value_of-returns-in-Paren t c =
    let facts = facts_in c.args.facts.now in
    IfOk-weaker c.value_of.result _ _ (λ v e. e ∙ ap (value facts) c.get.ensures ∙ sym (ap (value facts) c.in-Paren.is ∙ at-Paren facts c.in-Paren.«open» c.in-Paren.inner c.in-Paren.close)) c.value_of.ensures

pub value_of-returns-in-Fun : goal.value_of-returns-in-Fun
value_of-returns-in-Fun t c =
    let facts = facts_in c.args.facts.now in
    c.function_vertex.ensures ∙ ap (function_vertex facts) c.get-in-Fun.ensures ∙ sym (ap (value facts) c.in-Fun.is ∙ at-Fun facts c.in-Fun.function)

pub value_of-returns-in-Chain : goal.value_of-returns-in-Chain
value_of-returns-in-Chain t c =
    let facts = facts_in c.args.facts.now in
    IfOk-weaker c.value_up_to.result _ _ (λ v e. e ∙ (λ i. value_up_to facts (c.get-in-Chain.ensures i) (c.as_slice.ensures i))
    ∙ sym (ap (value facts) c.in-Chain.is ∙ at-Chain facts c.in-Chain.head c.in-Chain.tails)) c.value_up_to.ensures

pub value_of-returns-in-New : goal.value_of-returns-in-New
value_of-returns-in-New t c =
    let facts = facts_in c.args.facts.now in
    c.result_vertex.ensures ∙ sym (ap (value facts) c.in-New.is ∙ at-New facts c.in-New.word c.in-New.head c.in-New.tails c.in-New.args)

pub value_of-returns-in-Binary : goal.value_of-returns-in-Binary
value_of-returns-in-Binary t c =
    let facts = facts_in c.args.facts.now in
    let level = c.in-Binary.level in
    IfOk-weaker c.operands_value.result _ _ (λ v e. e ∙ (λ i. operands_value facts level (c.as_slice-in-Binary.ensures i) (value facts (c.get-in-Binary.ensures i) ∷ values_of facts (c.as_slice-in-Binary.ensures i)))
    ∙ sym (ap (value facts) c.in-Binary.is ∙ at-Binary facts level c.in-Binary.first c.in-Binary.rest)) c.operands_value.ensures

pub value_of-returns-in-Cond : goal.value_of-returns-in-Cond
value_of-returns-in-Cond t c =
    let facts = facts_in c.args.facts.now in
    c.joined_vertex.ensures ∙ ap (joined_vertex facts) (c.choice_mark.ensures ∙ ap choice_mark c.as_slice-in-Cond.ensures) ∙ sym (ap (value facts) c.in-Cond.is ∙ at-Cond facts c.in-Cond.arms c.in-Cond.last)

pub value_of-returns-in-Assign : goal.value_of-returns-in-Assign
value_of-returns-in-Assign t c =
    let facts = facts_in c.args.facts.now in
    IfOk-weaker c.assigned_value.result _ _ (λ v e. e ∙ ap (λ x. assigned_value c.in-Assign.op (value facts x)) c.get-in-Assign.ensures
    ∙ sym (ap (value facts) c.in-Assign.is ∙ at-Assign facts c.in-Assign.target c.in-Assign.op c.in-Assign.from)) c.assigned_value.ensures

pub value_of-returns-in-Comma : goal.value_of-returns-in-Comma
value_of-returns-in-Comma t c =
    let facts = facts_in c.args.facts.now in
    IfOk-weaker c.last_value.result _ _ (λ v e. e ∙ (λ i. last_value (value facts (c.get-in-Comma.ensures i) ∷ values_of facts (c.as_slice-in-Comma.ensures i)))
    ∙ sym (ap (value facts) c.in-Comma.is ∙ at-Comma facts c.in-Comma.first c.in-Comma.rest)) c.last_value.ensures

pub value_of-returns-in_default : goal.value_of-returns-in_default
value_of-returns-in_default t c =
    let x = c.args.value.now in
    at-others (facts_in c.args.facts.now) x (λ t e. c.in_default.not-Name t (is-Name x t e)) (λ b y z e. c.in_default.not-Paren b y z (is-Paren x b y z e)) (λ f e. c.in_default.not-Fun f (is-Fun x f e))
    (λ h ts e. c.in_default.not-Chain h ts (is-Chain x h ts e)) (λ w h ts args e. c.in_default.not-New w h ts args (is-New x w h ts args e)) (λ l y os e. c.in_default.not-Binary l y os (is-Binary x l y os e))
    (λ arms y e. c.in_default.not-Cond arms y (is-Cond x arms y e)) (λ t o v e. c.in_default.not-Assign t o v (is-Assign x t o v e)) (λ y os e. c.in_default.not-Comma y os (is-Comma x y os e))

pub last_value-returns-in-None : goal.last_value-returns-in-None
last_value-returns-in-None t c =
    let facts = facts_in c.args.facts.now in
    IfOk-weaker c.value_of.result _ _ (λ v e. e ∙ last_by (λ (x : Further Expr). value facts x.item) (value facts c.args.first.now) None c.args.rest.now None c.in-None.ensures.value) c.value_of.ensures

pub last_value-returns-in-Some : goal.last_value-returns-in-Some
last_value-returns-in-Some t c =
    let facts = facts_in c.args.facts.now in
    IfOk-weaker c.value_of-in-Some.result _ _ (λ v e. e ∙ ap (value facts) c.get.ensures ∙ last_by (λ (x : Further Expr). value facts x.item) (value facts c.args.first.now) None c.args.rest.now (Some c.in-Some.further.now) c.in-Some.ensures.value)
    c.value_of-in-Some.ensures

pub value_up_to-returns-in-None : goal.value_up_to-returns-in-None
value_up_to-returns-in-None t c =
    let facts = facts_in c.args.facts.now in
    let head = c.args.head.now in
    let tails = c.args.tails.now in
    IfOk-weaker c.value_of.result _ _ (λ v e. e ∙ ap (λ o. elim o [ None ↦ value facts head | Some u ↦ Some (tail_vertex facts head (front_of tails) u) ]) c.in-None.ensures.value) c.value_of.ensures

pub value_up_to-returns-in_ok-vertex-in-Some : goal.value_up_to-returns-in_ok-vertex-in-Some
value_up_to-returns-in_ok-vertex-in-Some t c =
    let facts = facts_in c.args.facts.now in
    let head = c.args.head.now in
    let tails = c.args.tails.now in
    ap Some (c.in_ok-vertex-in-Some.ensures {u = tt} ∙ ap (λ ts. tail_vertex facts head ts c.in-Some.tail.now) c.front_of.ensures)
    ∙ ap (λ o. elim o [ None ↦ value facts head | Some u ↦ Some (tail_vertex facts head (front_of tails) u) ]) c.in-Some.ensures.value

-- EACH CALL GOES TO WHAT IS LOWER

pub value_of-value_of-requires : goal.value_of-value_of-requires
value_of-value_of-requires t c =
    let n = c.in-Paren in
    let a = lower c.args.value.now (Expr-F.«Expr::Paren» n.«open» n.inner n.close) (AnExpr n.inner ∷ []) (ap out-Expr n.is ∙ outs-Paren n.«open» n.inner n.close) refl in
    let b = ap (λ (x : Expr). height (AnExpr x)) c.get.ensures in
    (omega (arith, a, b), tt)

pub value_of-value_up_to-requires : goal.value_of-value_up_to-requires
value_of-value_up_to-requires t c =
    let n = c.in-Chain in
    let a = lower c.args.value.now (Expr-F.Chain n.head n.tails) (AnExpr n.head ∷ tails_behind n.head [] n.tails []) (ap out-Expr n.is ∙ outs-Chain n.head n.tails) refl in
    let b = ap (λ (x : Expr). height (AnExpr x)) c.get-in-Chain.ensures in
    (omega (arith, a, b), tt)

pub value_of-operands_value-requires : goal.value_of-operands_value-requires
value_of-operands_value-requires t c =
    let n = c.in-Binary in
    let a = lower c.args.value.now (Expr-F.Binary n.level n.first n.rest) (AnExpr n.first ∷ operand_nodes n.rest) (ap out-Expr n.is ∙ outs-Binary n.level n.first n.rest) (ap (λ ns. AnExpr n.first ∷ ns) (operands_are (is_binary n.level) n.rest)) in
    let b : highest (AnExpr c.get-in-Binary.result.now ∷ operand_nodes c.as_slice-in-Binary.result.now) ≡ highest (AnExpr n.first ∷ operand_nodes n.rest)
    = (λ i. highest (AnExpr (c.get-in-Binary.ensures i) ∷ operand_nodes (c.as_slice-in-Binary.ensures i))) in
    (omega (arith, a, b), tt)

pub value_of-assigned_value-requires : goal.value_of-assigned_value-requires
value_of-assigned_value-requires t c =
    let n = c.in-Assign in
    let a = lower c.args.value.now (Expr-F.Assign n.target n.op n.from) (APattern n.target ∷ AnExpr n.from ∷ []) (ap out-Expr n.is ∙ outs-Assign n.target n.op n.from) refl in
    let b = ap (λ (x : Expr). height (AnExpr x)) c.get-in-Assign.ensures in
    (omega (arith, a, b), tt)

pub value_of-last_value-requires : goal.value_of-last_value-requires
value_of-last_value-requires t c =
    let n = c.in-Comma in
    let a = lower c.args.value.now (Expr-F.Comma n.first n.rest) (AnExpr n.first ∷ operand_nodes n.rest) (ap out-Expr n.is ∙ outs-Comma n.first n.rest) (ap (λ ns. AnExpr n.first ∷ ns) (operands_are (is kind.Comma) n.rest)) in
    let b : highest (AnExpr c.get-in-Comma.result.now ∷ operand_nodes c.as_slice-in-Comma.result.now) ≡ highest (AnExpr n.first ∷ operand_nodes n.rest)
    = (λ i. highest (AnExpr (c.get-in-Comma.ensures i) ∷ operand_nodes (c.as_slice-in-Comma.ensures i))) in
    (omega (arith, a, b), tt)
