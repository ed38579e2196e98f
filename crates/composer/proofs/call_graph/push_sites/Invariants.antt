use Rattle.std.proofs.Common.{drop, map}
use Rattle.std.specs.Prelude.{flat_map}
use Rattle.std.specs.List.{enumerate_from}
use Rattle.composer.specs.Application.{site_of}
use Rattle.composer.specs.Parts.{lists_of}
use Rattle.composer.specs.Solved.{AddsEdges, AreNumbered, IsEdgeBelow}
use Rattle.composer.proofs.call_graph.push_sites.Given as goal

abbrev pub invariant-loop-m : goal.invariant-loop-m
invariant-loop-m l =
    AddsEdges (IsEdgeBelow l.system (lists_of l.parts) l.m) l.fn.out.items l.out.items
    × AreNumbered l.system l.sets.sets (flat_map (λ (m, c). map (site_of m) c.sites) (enumerate_from l.m (lists_of (drop l.m l.parts)))) l.rest
