use Rattle.std.proofs.Common.{◌≡◌, ◌++◌, length, map}
use Rattle.jam_app.specs.Printing.{edge_among}
use Rattle.jam_app.proofs.answers.edges.shown_edges.Given as goal

abbrev pub invariant-loop-first : goal.invariant-loop-first
invariant-loop-first l = l.steps.items ++ map (edge_among l.printed) l.rest ≡ map (edge_among l.printed) l.edges

abbrev pub decreases-loop-first : goal.decreases-loop-first
decreases-loop-first l = length l.rest
