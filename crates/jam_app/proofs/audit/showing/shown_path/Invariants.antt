use Rattle.std.proofs.Common.{◌≡◌, map, take}
use Rattle.jam_app.specs.Printing.{edge_among}
use Rattle.jam_app.proofs.audit.showing.shown_path.Given as goal

abbrev pub invariant-loop-edge : goal.invariant-loop-edge
invariant-loop-edge l = l.shown.items ≡ map (edge_among l.sources.printed.now) (take l.edge-index l.path)
