use Rattle.std.proofs.Common.{◌≡◌, ◌++◌, map, take}
use Rattle.jam_app.specs.Printing.{edge_among}
use Rattle.jam_app.proofs.answers.edges.push_stray.Given as goal

abbrev pub invariant-loop-edge : goal.invariant-loop-edge
invariant-loop-edge l = l.steps.items ≡ l.fn.steps.items ++ map (edge_among l.printed) (take l.edge-index l.edges)
