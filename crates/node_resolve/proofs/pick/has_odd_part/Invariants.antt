use Rattle.std.proofs.Common.{◌≡◌, drop}
use Rattle.std.proofs.Common.{map as each}
use Rattle.node_resolve.specs.Exports as exports
use Rattle.node_resolve.proofs.pick.has_odd_part.Given as goal

-- the parts that are left decide
abbrev pub invariant-loop-part : goal.invariant-loop-part
invariant-loop-part l = exports.has_odd_part (each (λ p. p.now) l.parts) ≡ exports.has_odd_part (drop l.part-index (each (λ p. p.now) l.parts))
