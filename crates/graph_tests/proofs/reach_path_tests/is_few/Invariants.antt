use Rattle.std.proofs.Common.{◌≡◌, ◌+◌, take, sum}
use Rattle.graph_tests.proofs.reach_path_tests.is_few.Given as goal

abbrev pub invariant-loop-count : goal.invariant-loop-count
invariant-loop-count l = l.left + sum (take l.count-index l.functions) ≡ 4294967295
