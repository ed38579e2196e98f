use Rattle.std.proofs.Common.{◌≡◌, drop}
use Rattle.std.proofs.Common.{map as each}
use Rattle.node_resolve.specs.Shapes as shapes
use Rattle.node_resolve.proofs.shape.is_among.Given as goal

-- the names that are left decide
abbrev pub invariant-loop-name : goal.invariant-loop-name
invariant-loop-name l = shapes.is_among (each (λ name. name.now) l.names) l.text ≡ shapes.is_among (drop l.name-index (each (λ name. name.now) l.names)) l.text
