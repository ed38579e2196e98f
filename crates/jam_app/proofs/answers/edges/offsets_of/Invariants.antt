use Rattle.std.proofs.Common.{◌≡◌, map, take}
use Rattle.jam_base.specs.declared.edge.Edge.{Edge}
use Rattle.jam_app.proofs.answers.edges.offsets_of.Given as goal

abbrev pub invariant-loop-edge : goal.invariant-loop-edge
invariant-loop-edge l = l.offsets.items ≡ map (λ (e : Edge). e.offset) (take l.edge-index l.edges)
