use Rattle.std.proofs.Common.{◌≡◌, ℕ, ◌<◌, ◌==◌, nat_lt, List, length, subst, sym, ap, ◌∙◌}
use Rattle.std.specs.List.{list_any}
use Rattle.js_tree.proofs.WalkLemmas.{items_from_nothing}
use Rattle.js_tree.specs.Parts.{ABody}
use Rattle.js_scopes.specs.AtHand.{known_in}
use Rattle.flow_rules.specs.Arguments.{arguments_in}
use Rattle.flow_rules.proofs.Lengths.{few_arguments}
use Rattle.flow_rules.proofs.Places.{any_placed, both_ok}
use Rattle.flow_rules.proofs.extraction.arguments_of.Goals as goal

pub of-requires : goal.of-requires
of-requires c =
    let known = known_in c.args.known.now in
    subst (λ (xs : List ℕ). length xs < 4294967296)
    (sym (items_from_nothing c.new-used.result.items c.walk_tree.new.out.items _ c.new-used.ensures.items (c.in_ok-walk_tree.ensures {u = tt}) ∙ ap (λ body. arguments_in known (ABody body)) c.as_slice.ensures))
    (few_arguments known (ABody c.args.tree.now.body) c.requires)

pub returns : goal.returns
returns c =
    let known = known_in c.args.known.now in
    let used : c.walk_tree.new.out.items ≡ arguments_in known (ABody c.args.tree.now.body)
    = items_from_nothing c.new-used.result.items c.walk_tree.new.out.items _ c.new-used.ensures.items (c.in_ok-walk_tree.ensures {u = tt}) ∙ ap (λ body. arguments_in known (ABody body)) c.as_slice.ensures in
    both_ok c.of.result _ _ _ (λ made places count f. (λ i. nat_lt (places f i) (count i)) ∙ any_placed c.walk_tree.new.out.items f ∙ ap (list_any (λ g. g == f)) used) c.of.ensures.places c.of.ensures.count
