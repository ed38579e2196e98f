use Rattle.std.proofs.Common.{◌≡◌, ◌++◌, map, take}
use Rattle.jam_app.proofs.loading.rounds.push_targets.Given as goal

abbrev pub invariant-loop-target : goal.invariant-loop-target
invariant-loop-target l = l.paths.items ≡ l.fn.paths.items ++ map (λ t. t.path) (take l.target-index l.targets)
