use Rattle.std.proofs.Common.{◌≡◌, ℕ, ◌==◌, ap, ◌∙◌}
use Rattle.std.specs.List.{list_any}
use Rattle.js_scopes.specs.AtHand.{known_in}
use Rattle.jam_base.specs.Ascending.{ascending}
use Rattle.js_tree.specs.Parts.{ABody}
use Rattle.js_tree.proofs.WalkLemmas.{items_from_nothing}
use Rattle.js_scopes.specs.Scopes.{known_of}
use Rattle.flow_rules.specs.Arguments.{arguments_in}
use Rattle.flow_rules.specs.Flows.{facts_of, flows_in}
use Rattle.flow_rules.specs.Places.{is_placed, number_in}
use Rattle.flow_rules.specs.Values.{Facts}
use Rattle.flow_rules.specs.Vertices.{flow_order}
use Rattle.flow_rules.proofs.extraction.flows_of.Goals as goal

pub returns : goal.returns
returns c =
    let tree = c.args.tree.now in
    let here : Facts = record { known = known_in c.args.known.now; number = number_in c.in_ok-numbers.numbers; uses_arguments = is_placed c.in_ok-arguments.arguments } in
    let used : (f : ℕ) → is_placed c.in_ok-arguments.arguments f ≡ list_any (λ g. g == f) (arguments_in (known_of tree) (ABody tree.body))
    = λ f. c.in_ok-arguments.ensures {u = tt} f ∙ ap (λ k. list_any (λ g. g == f) (arguments_in k (ABody tree.body))) c.requires.known in
    let same : here ≡ facts_of tree = λ i. record { known = c.requires.known i; number = λ offset. c.in_ok-numbers.ensures {u = tt} offset i; uses_arguments = λ f. used f i } in
    c.of.ensures ∙ c.in_ok-found.ensures {u = tt} ∙ ap (ascending flow_order) (
    items_from_nothing c.new-found.result.items c.walk_tree.new.out.items _ c.new-found.ensures.items (c.in_ok-walk_tree.ensures {u = tt})
    ∙ (λ i. flows_in (same i) (ABody (c.as_slice.ensures i)) 0))
