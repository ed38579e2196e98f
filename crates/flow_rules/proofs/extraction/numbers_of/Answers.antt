use Rattle.std.proofs.Common.{ℕ, ◌<◌, List, length, subst, sym, ap, ◌∙◌}
use Rattle.js_tree.proofs.WalkLemmas.{items_from_nothing}
use Rattle.flow_rules.specs.Numbered.{numbered_of}
use Rattle.flow_rules.proofs.Lengths.{few_numbered}
use Rattle.flow_rules.proofs.extraction.numbers_of.Goals as goal

pub of-requires : goal.of-requires
of-requires c =
    subst (λ (xs : List ℕ). length xs < 4294967296)
    (sym (items_from_nothing c.new-numbered.result.items c.walk_tree.new.out.items _ c.new-numbered.ensures.items (c.in_ok-walk_tree.ensures {u = tt}) ∙ ap (λ body. numbered_of (record { body = body })) c.as_slice.ensures))
    (few_numbered c.args.tree.now c.requires)
