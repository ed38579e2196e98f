use Rattle.std.proofs.Common.{length, sym, ◌∙◌, subst}
use Rattle.std.specs.Prelude.{Contains}
use Rattle.std.proofs.lemmas.List.Elements.{All-get_or}
use Rattle.composer.specs.Numbered.{Below, IsSiteIn, map_site}
use Rattle.composer.specs.Numbers.{vertex_at}
use Rattle.composer.proofs.NumberLemmas.{Numbers-none, Numbers-more, Numbers-whole}
use Rattle.composer.proofs.numbers.numbered_sites.Goals as goal

pub loop-site-init : goal.loop-site-init
loop-site-init c = rw c.new-out.ensures.items (Numbers-none (map_site (vertex_at c.args.vertices.now)) (IsSiteIn (Below (length c.args.vertices.now))) c.args.sites.now)

pub numbered_site-requires : goal.numbered_site-requires
numbered_site-requires c = subst (IsSiteIn (Contains c.args.vertices.now)) (sym c.site-item.is) (All-get_or (IsSiteIn (Contains c.args.vertices.now)) c.args.sites.now c.loop-site.site-index c.site-item.result c.loop-site-test.true c.requires)

pub loop-site-preserved : goal.loop-site-preserved
loop-site-preserved c =
    rw c.in_ok-push.ensures.items (Numbers-more (map_site (vertex_at c.args.vertices.now)) (IsSiteIn (Below (length c.args.vertices.now))) c.loop-site.out.items c.in_ok-made.made c.args.sites.now c.loop-site.site-index c.site-item.result c.loop-site-test.true c.loop-site.invariant
    (c.in_ok-made.ensures.names ∙ c.site-item.is) c.in_ok-made.ensures.below)

pub returns-clause-names : goal.returns-clause-names
returns-clause-names c = Numbers-whole (map_site (vertex_at c.args.vertices.now)) (IsSiteIn (Below (length c.args.vertices.now))) c.loop-site.out.items c.args.sites.now c.loop-site.site-index c.loop-site-test.false c.loop-site.invariant
