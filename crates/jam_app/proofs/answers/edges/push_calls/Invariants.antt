use Rattle.std.proofs.Common.{◌≡◌, ◌++◌, map, take}
use Rattle.jam_app.specs.Printing.{edge_among}
use Rattle.jam_app.proofs.answers.edges.push_calls.Given as goal

abbrev pub invariant-loop-i : goal.invariant-loop-i
invariant-loop-i l = l.steps.items ≡ l.fn.steps.items ++ map (edge_among l.printed) (take l.i l.edges)
