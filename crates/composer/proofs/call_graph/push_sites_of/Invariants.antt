use Rattle.std.proofs.Common.{take}
use Rattle.composer.specs.Solved.{AddsEdges, IsEdgeAmong}
use Rattle.composer.proofs.call_graph.push_sites_of.Given as goal

abbrev pub invariant-loop-k : goal.invariant-loop-k
invariant-loop-k l = AddsEdges (IsEdgeAmong l.system l.m (take l.k l.sites)) l.fn.out.items l.out.items
