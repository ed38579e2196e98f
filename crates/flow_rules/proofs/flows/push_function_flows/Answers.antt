use Rattle.std.proofs.Common.{◌≡◌, ◌++◌, append_assoc, arith, ap, length, map, ◌∙◌}
use Rattle.std.proofs.lemmas.Result.{on_ok_weaker}
use Rattle.std.proofs.lemmas.List.{length-map}
use Rattle.js_tree.specs.declared.tree.Function.{out-Function}
use Rattle.js_tree.specs.Parts.{AFunction}
use Rattle.js_tree.proofs.TextLemmas.{tokens_count}
use Rattle.js_scopes.specs.Functions.{name_in, params_in, start_of}
use Rattle.js_scopes.proofs.OwnTokens.{params_owned}
use Rattle.flow_rules.specs.AtHand.{facts_in}
use Rattle.flow_rules.specs.Flows.{named_flows, params_flows}
use Rattle.flow_rules.proofs.flows.push_function_flows.Goals as goal

pub push_params-requires : goal.push_params-requires
push_params-requires c =
    let f = c.args.function.now in
    let a = ap length c.as_slice.ensures.value in
    let b = ap length (c.in_ok-params.ensures {u = tt}) in
    let d = length-map c.in_ok-params.params.items (λ s. s.now) in
    let o = params_owned (out-Function f) in
    let few = c.requires.few in
    let t = tokens_count (AFunction f) in
    omega (arith, a, b, d, o, few, t)

pub returns : goal.returns
returns c =
    let facts = facts_in c.args.facts.now in
    let out = c.args.out.now.items in
    let f = c.args.function.now in
    let l = out-Function f in
    let number : c.number-number.result ≡ facts.known.number (start_of f) = c.number-number.ensures ∙ ap facts.known.number c.start_of.ensures in
    let named : c.push_named.new.out.items ≡ out ++ named_flows facts.known (facts.known.number (start_of f)) (name_in l)
    = c.in_ok-push_named.ensures {u = tt} ∙ (λ i. out ++ named_flows facts.known (number i) (c.own_name.ensures i)) in
    let params : map (λ s. s.now) c.as_slice.result.now ≡ params_in l = ap (map (λ s. s.now)) c.as_slice.ensures.value ∙ c.in_ok-params.ensures {u = tt} in
    on_ok_weaker c.push_params.result
    (λ e. e ∙ (λ i. named i ++ params_flows facts (number i) 0 (params i))
    ∙ append_assoc out (named_flows facts.known (facts.known.number (start_of f)) (name_in l)) (params_flows facts (facts.known.number (start_of f)) 0 (params_in l)))
    c.push_params.ensures
