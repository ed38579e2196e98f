use Rattle.std.proofs.Common.{length}
use Rattle.composer.specs.Numbered.{Below, IsSiteIn, map_site}
use Rattle.composer.specs.Numbers.{vertex_at}
use Rattle.composer.proofs.NumberLemmas.{Numbers}
use Rattle.composer.proofs.numbers.numbered_sites.Given as goal

abbrev pub invariant-loop-site : goal.invariant-loop-site
invariant-loop-site l = Numbers (map_site (vertex_at l.vertices)) (IsSiteIn (Below (length l.vertices))) l.out.items l.sites l.site-index
