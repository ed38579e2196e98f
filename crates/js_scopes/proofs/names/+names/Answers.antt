use Rattle.std.proofs.Common.{◌≡◌, ◌++◌, ◌∷◌, map, subst, sym, ap, ◌∙◌, arith, Some, None}
use Rattle.std.specs.List.{AllByRecursion, flat_map}
use Rattle.std.proofs.lemmas.List.{take_all}
use Rattle.std.proofs.lemmas.List.Elements.{All-from_recursion}
use Rattle.std.proofs.lemmas.Result.{on_ok_weaker}
use Rattle.js_tree.specs.declared.node.Node.{Node as Given}
use Rattle.js_tree.specs.Parts.{node_of, parts}
use Rattle.js_tree.proofs.GatherLemmas.{gathered_through, parts_lower}
use Rattle.js_tree.specs.Tokens.{IsInText}
use Rattle.js_tree.proofs.TextLemmas.{parts_in_text}
use Rattle.js_tree.proofs.WalkLemmas.{each_seen, from_nothing}
use Rattle.js_scopes.specs.Names.{Around}
use Rattle.js_scopes.specs.Scopes.{around_in, around_with, names_in, number_in, own_names, scope_in}
use Rattle.js_scopes.specs.Around.{around_of}
use Rattle.js_scopes.specs.Walks.{scopes_of}
use Rattle.js_scopes.proofs.Steps.{pushed_more, then_more}
use Rattle.js_scopes.proofs.names.+names.Goals as goal

pub push_node-push_nodes-requires : goal.push_node-push_nodes-requires
push_node-push_nodes-requires t c =
    let m = node_of c.args.node in
    let same_parts : map node_of c.as_slice.result.now ≡ parts m = ap (map node_of) c.as_slice.ensures.value ∙ from_nothing node_of _ _ (parts m) c.new-parts.ensures.items (c.in_ok-push_parts.ensures {u = tt}) in
    let l = parts_lower m c.as_slice.result.now same_parts in
    (omega (arith, l), (c.requires.ready, All-from_recursion (λ x. IsInText (node_of x)) _ (each_seen IsInText node_of _ (subst (AllByRecursion IsInText) (sym same_parts) (parts_in_text m c.requires.spelled)))))

pub push_node-returns-in-None : goal.push_node-returns-in-None
push_node-returns-in-None t c n same =
    let m = node_of c.args.node in
    let same_parts : map node_of c.as_slice.result.now ≡ parts m = ap (map node_of) c.as_slice.ensures.value ∙ from_nothing node_of _ _ (parts m) c.new-parts.ensures.items (c.in_ok-push_parts.ensures {u = tt}) in
    let a = around_of c.args.around in
    let none : scope_in m ≡ None = sym (c.in_ok-scope_in.ensures {u = tt}) ∙ c.in-None.is in
    let e : a ≡ around_in n m a = sym (ap (λ o. around_with o (number_in n m a.holder) a) none) in
    on_ok_weaker c.push_nodes.result
    (λ h. h ∙ then_more c.args.out.now.items _ _ _ _ (c.in_ok-push_own-in-None.ensures {u = tt} n same e)
    (gathered_through (own_names n) (λ node around. Some (around_in n node around)) m a a c.as_slice.result.now (ap Some (sym e)) same_parts))
    (c.push_nodes.ensures n same)

pub push_node-returns : goal.push_node-returns
push_node-returns t c n same =
    let m = node_of c.args.node in
    let same_parts : map node_of c.as_slice-in-Some-2.result.now ≡ parts m = ap (map node_of) c.as_slice-in-Some-2.ensures.value ∙ from_nothing node_of _ _ (parts m) c.new-parts.ensures.items (c.in_ok-push_parts.ensures {u = tt}) in
    let a = around_of c.args.around in
    let inner : Around = record { scopes = scopes_of c.as_slice-in-Some.result.now; holder = c.number_in.result } in
    let some : scope_in m ≡ Some c.in-Some.own = sym (c.in_ok-scope_in.ensures {u = tt}) ∙ c.in-Some.is in
    let scopes : scopes_of c.as_slice-in-Some.result.now ≡ c.in-Some.own ∷ a.scopes = ap scopes_of c.as_slice-in-Some.ensures.value ∙ c.in_ok-scopes-in-Some.ensures {u = tt} in
    let e : inner ≡ around_in n m a
    = (λ i. record { scopes = scopes i; holder = c.number_in.ensures n same i }) ∙ sym (ap (λ o. around_with o (number_in n m a.holder) a) some) in
    on_ok_weaker c.push_nodes-in-Some.result
    (λ h. h ∙ then_more c.args.out.now.items _ _ _ _ (c.in_ok-push_own-in-Some.ensures {u = tt} n same e)
    (gathered_through (own_names n) (λ node around. Some (around_in n node around)) m a inner c.as_slice-in-Some-2.result.now (ap Some (sym e)) same_parts))
    (c.push_nodes-in-Some.ensures n same)

pub push_node-push_nodes-requires-in-Some : goal.push_node-push_nodes-requires-in-Some
push_node-push_nodes-requires-in-Some t c =
    let m = node_of c.args.node in
    let same_parts : map node_of c.as_slice-in-Some-2.result.now ≡ parts m = ap (map node_of) c.as_slice-in-Some-2.ensures.value ∙ from_nothing node_of _ _ (parts m) c.new-parts.ensures.items (c.in_ok-push_parts.ensures {u = tt}) in
    let l = parts_lower m c.as_slice-in-Some-2.result.now same_parts in
    (omega (arith, l), (c.requires.ready, All-from_recursion (λ x. IsInText (node_of x)) _ (each_seen IsInText node_of _ (subst (AllByRecursion IsInText) (sym same_parts) (parts_in_text m c.requires.spelled)))))

pub push_nodes-loop-node-preserved : goal.push_nodes-loop-node-preserved
push_nodes-loop-node-preserved t c n same =
    let f = λ (x : Given). names_in n (node_of x) (around_of c.args.around) in
    pushed_more f c.args.out.now.items c.loop-node.out.items c.push_node.new.out.items c.args.nodes.now c.loop-node.node-index c.node-item.result
    c.loop-node-test.true (c.loop-node.invariant n same) (c.in_ok-push_node.ensures {u = tt} n same ∙ ap (λ x. c.loop-node.out.items ++ f x) c.node-item.is)

pub push_nodes-returns : goal.push_nodes-returns
push_nodes-returns t c n same =
    c.loop-node.invariant n same ∙ ap (λ xs. c.args.out.now.items ++ flat_map (λ x. names_in n (node_of x) (around_of c.args.around)) xs) (take_all c.loop-node.node-index c.args.nodes.now c.loop-node-test.false)
