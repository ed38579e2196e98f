use Rattle.std.proofs.Common.{length, sym, ◌∙◌, subst}
use Rattle.std.specs.Prelude.{Contains}
use Rattle.std.proofs.lemmas.List.Elements.{All-get_or}
use Rattle.composer.specs.Numbered.{Below}
use Rattle.composer.specs.Numbers.{vertex_at}
use Rattle.composer.proofs.NumberLemmas.{Numbers-none, Numbers-more, Numbers-whole}
use Rattle.composer.proofs.numbers.numbers_of.Goals as goal

pub loop-vertex-init : goal.loop-vertex-init
loop-vertex-init c = rw c.new-out.ensures.items (Numbers-none (vertex_at c.args.vertices.now) (Below (length c.args.vertices.now)) c.args.some.now)

pub number_of-requires : goal.number_of-requires
number_of-requires c = subst (Contains c.args.vertices.now) (sym c.vertex-item.is) (All-get_or (Contains c.args.vertices.now) c.args.some.now c.loop-vertex.vertex-index c.vertex-item.result c.loop-vertex-test.true c.requires)

pub loop-vertex-preserved : goal.loop-vertex-preserved
loop-vertex-preserved c =
    rw c.in_ok-push.ensures.items (Numbers-more (vertex_at c.args.vertices.now) (Below (length c.args.vertices.now)) c.loop-vertex.out.items c.number_of.result c.args.some.now c.loop-vertex.vertex-index c.vertex-item.result c.loop-vertex-test.true c.loop-vertex.invariant
    (c.number_of.ensures.names ∙ c.vertex-item.is) c.number_of.ensures.below)

pub returns-clause-names : goal.returns-clause-names
returns-clause-names c = Numbers-whole (vertex_at c.args.vertices.now) (Below (length c.args.vertices.now)) c.loop-vertex.out.items c.args.some.now c.loop-vertex.vertex-index c.loop-vertex-test.false c.loop-vertex.invariant
