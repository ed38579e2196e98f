use Rattle.std.proofs.Common.{◌≡◌, ◌*◌, ◌≤◌, take, sum_by}
use Rattle.composer.specs.Sizes.{site_size}
use Rattle.composer.proofs.size.sites_size.Given as goal

abbrev pub invariant-loop-site : goal.invariant-loop-site
invariant-loop-site l = (l.size ≡ sum_by site_size (take l.site-index l.sites)) × (l.size ≤ l.site-index * 4294967299)
