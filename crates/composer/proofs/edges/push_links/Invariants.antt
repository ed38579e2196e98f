use Rattle.std.proofs.Common.{take}
use Rattle.composer.specs.Parts.{lists_of}
use Rattle.composer.specs.Solved.{AddsEdges, IsAmong, IsLinkEdge}
use Rattle.composer.proofs.edges.push_links.Given as goal

abbrev pub invariant-loop-link : goal.invariant-loop-link
invariant-loop-link l = AddsEdges (IsAmong (IsLinkEdge (lists_of l.parts)) (take l.link-index l.links)) l.fn.out.items l.out.items
