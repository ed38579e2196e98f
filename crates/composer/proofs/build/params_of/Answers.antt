use Rattle.std.proofs.Common.{◌∙◌, ◌++◌, ◌∷◌, [], sym, arith}
use Rattle.std.proofs.lemmas.List.FromFn.{map-range_with_len_more}
use Rattle.flow_rules.specs.declared.vertex.Vertex.TheVariants.{Param}
use Rattle.composer.specs.Application.{at_module}
use Rattle.composer.proofs.build.params_of.Goals as goal

pub loop-index-preserved : goal.loop-index-preserved
loop-index-preserved c =
    c.in_ok-push.ensures.items ∙ (λ k. c.loop-index.invariant k ++ c.at_module.ensures k ∷ [])
    ∙ sym (map-range_with_len_more (λ i. at_module c.args.m (Param c.args.function i)) 0 c.loop-index.index c.loop-index.index (omega arith))
