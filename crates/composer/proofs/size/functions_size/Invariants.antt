use Rattle.std.proofs.Common.{◌≡◌, ◌*◌, ◌≤◌, take, sum_by}
use Rattle.composer.specs.Sizes.{function_size}
use Rattle.composer.proofs.size.functions_size.Given as goal

abbrev pub invariant-loop-info : goal.invariant-loop-info
invariant-loop-info l = (l.size ≡ sum_by function_size (take l.info-index l.functions)) × (l.size ≤ l.info-index * 4294967299)
