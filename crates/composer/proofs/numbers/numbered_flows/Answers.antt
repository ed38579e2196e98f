use Rattle.std.proofs.Common.{length, sym, ◌∙◌, subst}
use Rattle.std.specs.Prelude.{Contains}
use Rattle.std.proofs.lemmas.List.Elements.{All-get_or}
use Rattle.composer.specs.Numbered.{Below, IsArrowIn, map_arrow}
use Rattle.composer.specs.Numbers.{vertex_at}
use Rattle.composer.proofs.NumberLemmas.{Numbers-none, Numbers-more, Numbers-whole}
use Rattle.composer.proofs.numbers.numbered_flows.Goals as goal

pub loop-flow-init : goal.loop-flow-init
loop-flow-init c = rw c.new-out.ensures.items (Numbers-none (map_arrow (vertex_at c.args.vertices.now)) (IsArrowIn (Below (length c.args.vertices.now))) c.args.flows.now)

pub numbered_flow-requires : goal.numbered_flow-requires
numbered_flow-requires c = subst (IsArrowIn (Contains c.args.vertices.now)) (sym c.flow-item.is) (All-get_or (IsArrowIn (Contains c.args.vertices.now)) c.args.flows.now c.loop-flow.flow-index c.flow-item.result c.loop-flow-test.true c.requires)

pub loop-flow-preserved : goal.loop-flow-preserved
loop-flow-preserved c =
    rw c.in_ok-push.ensures.items (Numbers-more (map_arrow (vertex_at c.args.vertices.now)) (IsArrowIn (Below (length c.args.vertices.now))) c.loop-flow.out.items c.numbered_flow.result c.args.flows.now c.loop-flow.flow-index c.flow-item.result c.loop-flow-test.true c.loop-flow.invariant
    (c.numbered_flow.ensures.names ∙ c.flow-item.is) c.numbered_flow.ensures.below)

pub returns-clause-names : goal.returns-clause-names
returns-clause-names c = Numbers-whole (map_arrow (vertex_at c.args.vertices.now)) (IsArrowIn (Below (length c.args.vertices.now))) c.loop-flow.out.items c.args.flows.now c.loop-flow.flow-index c.loop-flow-test.false c.loop-flow.invariant
