use Rattle.std.proofs.Common.{◌≡◌, map, subst, sym, ap, ◌∙◌}
use Rattle.std.specs.List.{AllByRecursion, flat_map}
use Rattle.std.proofs.lemmas.List.Elements.{All-from_recursion}
use Rattle.std.proofs.lemmas.List.Folds.{flat_map-map}
use Rattle.std.proofs.lemmas.Result.{IfOk-weaker}
use Rattle.js_tree.specs.Parts.{Node, node_of, parts}
use Rattle.js_tree.specs.Tokens.{IsInText}
use Rattle.js_tree.proofs.TextLemmas.{parts_in_text}
use Rattle.js_tree.proofs.WalkLemmas.{each_seen, from_nothing}
use Rattle.js_scopes.specs.Scopes.{declared_in}
use Rattle.js_scopes.proofs.scope.scope_of.Goals as goal

pub declared_in-requires : goal.declared_in-requires
declared_in-requires c =
    let m = node_of c.args.node in
    let same_parts : map node_of c.as_slice.result.now ≡ parts m = ap (map node_of) c.as_slice.ensures.value ∙ from_nothing node_of _ _ (parts m) c.new-parts.ensures.items (c.in_ok-push_parts.ensures {u = tt}) in
    All-from_recursion (λ x. IsInText (node_of x)) _ (each_seen IsInText node_of _ (subst (AllByRecursion IsInText) (sym same_parts) (parts_in_text m c.requires)))

pub returns : goal.returns
returns c =
    let m = node_of c.args.node in
    let f = λ (p : Node). declared_in p c.args.declaring in
    let same_parts : map node_of c.as_slice.result.now ≡ parts m = ap (map node_of) c.as_slice.ensures.value ∙ from_nothing node_of _ _ (parts m) c.new-parts.ensures.items (c.in_ok-push_parts.ensures {u = tt}) in
    IfOk-weaker c.of.result _ _ (λ made e. e ∙ c.in_ok-declared_in.ensures {u = tt} ∙ sym (flat_map-map f node_of c.as_slice.result.now) ∙ ap (flat_map f) same_parts) c.of.ensures
