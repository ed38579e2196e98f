use Rattle.std.proofs.Common.{◌∙◌, ap, ℕ, List}
use Rattle.std.specs.List.{join_by}
use Rattle.jam_base.proofs.Joined.{texts}
use Rattle.node_resolve.proofs.Texts.{joined_texts}
use Rattle.node_resolve.proofs.pick.with_star.Goals as goal

pub returns : goal.returns
returns c =
    c.from_string.ensures ∙ (c.in_ok-join.ensures {u = tt}).ok ∙ joined_texts c.args.star.now c.as_slice.result.now
    ∙ ap (join_by (λ (p : List ℕ). p) c.args.star.now) (ap texts c.as_slice.ensures.value ∙ c.in_ok-pieces.ensures {u = tt})
