use Rattle.std.proofs.Common.{◌≡◌, ◌+◌, drop, map}
use Rattle.std.specs.Prelude.{◌==◌, if◌then◌else◌}
use Rattle.jam_base.specs.Path as path
use Rattle.jam_base.proofs.path.package_length.Given as goal

-- the parts to come decide where they have a `node_modules`
abbrev pub invariant-loop-i : goal.invariant-loop-i
invariant-loop-i l =
    let ps = map (λ p. p.now) l.parts in
    path.package_length ps ≡ (if path.package_length (drop l.i ps) == 0 then l.length else l.i + path.package_length (drop l.i ps))
