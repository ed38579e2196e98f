use Rattle.std.proofs.Common.{◌≡◌, ◌++◌, List, [], ◌∷◌, ap, map, refl, sym, ◌∙◌}
use Rattle.std.proofs.lemmas.List.{map-append}
use Rattle.js_tree.specs.declared.lists.Element.{Element}
use Rattle.js_tree.specs.declared.lists.Listed.{Listed}
use Rattle.js_tree.specs.declared.tree.Expr.{Expr}
use Rattle.js_scopes.specs.Brackets.{listed}
use Rattle.flow_rules.specs.AtHand.{facts_in}
use Rattle.flow_rules.specs.Calls.{argument_of}
use Rattle.flow_rules.proofs.arguments.arguments_of.Goals as goal

items_made : {X Y : Type 0} (f : X → Y) (xs : List (Listed X)) → map (λ (x : Listed X). f x.item) xs ≡ map f (map (λ (x : Listed X). x.item) xs)
items_made f [] = refl
items_made f (x ∷ xs) = ap (λ ys. f x.item ∷ ys) (items_made f xs)

pub returns : goal.returns
returns c =
    let f = argument_of (facts_in c.args.facts.now) in
    let b = c.args.items.now in
    c.in_ok-push_last.ensures {u = tt}
    ∙ ap (λ ys. ys ++ map f (listed b.last)) (c.in_ok-found.ensures {u = tt} ∙ ap (map (λ (x : Listed (Element Expr)). f x.item)) c.as_slice.ensures ∙ items_made f b.front)
    ∙ sym (map-append f (map (λ (x : Listed (Element Expr)). x.item) b.front) (listed b.last))
