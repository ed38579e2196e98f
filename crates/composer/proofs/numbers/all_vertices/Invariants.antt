use Rattle.std.proofs.Common.{◌≡◌, ◌++◌, drop}
use Rattle.std.specs.Prelude.{flat_map}
use Rattle.composer.specs.Numbered.{callable_vertices, site_vertices, arrow_vertices}
use Rattle.composer.proofs.numbers.all_vertices.Given as goal

abbrev pub invariant-loop-callable : goal.invariant-loop-callable
invariant-loop-callable l = l.out.items ++ flat_map callable_vertices (drop l.callable-index l.system.functions) ≡ flat_map callable_vertices l.system.functions

abbrev pub invariant-loop-site : goal.invariant-loop-site
invariant-loop-site l = l.out.items ++ flat_map site_vertices (drop l.site-index l.system.sites) ≡ flat_map callable_vertices l.system.functions ++ flat_map site_vertices l.system.sites

abbrev pub invariant-loop-flow : goal.invariant-loop-flow
invariant-loop-flow l = l.out.items ++ flat_map arrow_vertices (drop l.flow-index l.system.flows) ≡ flat_map callable_vertices l.system.functions ++ flat_map site_vertices l.system.sites ++ flat_map arrow_vertices l.system.flows
