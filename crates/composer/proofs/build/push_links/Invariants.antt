use Rattle.std.proofs.Common.{◌≡◌, ◌++◌, drop, map}
use Rattle.composer.specs.Application.{link_flow}
use Rattle.composer.proofs.build.push_links.Given as goal

abbrev pub invariant-loop-link : goal.invariant-loop-link
invariant-loop-link l = l.out.items ++ map link_flow (drop l.link-index l.links) ≡ l.fn.out.items ++ map link_flow l.links
