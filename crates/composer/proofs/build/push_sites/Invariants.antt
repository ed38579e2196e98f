use Rattle.std.proofs.Common.{◌≡◌, ◌++◌, drop, map}
use Rattle.composer.specs.Application.{site_of}
use Rattle.composer.proofs.build.push_sites.Given as goal

abbrev pub invariant-loop-site : goal.invariant-loop-site
invariant-loop-site l = l.out.items ++ map (site_of l.m) (drop l.site-index l.sites) ≡ l.fn.out.items ++ map (site_of l.m) l.sites
