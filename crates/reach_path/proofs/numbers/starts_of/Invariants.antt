use Rattle.std.proofs.Common.{◌≡◌, ◌+◌, ◌++◌, drop, sum}
use Rattle.reach_path.specs.Numbers.{starts_from}
use Rattle.reach_path.proofs.numbers.starts_of.Given as goal

abbrev pub invariant-loop-count : goal.invariant-loop-count
invariant-loop-count l = record {
  starts : l.starts.items ++ starts_from l.next (drop l.count-index l.functions) ≡ starts_from 0 l.functions;
  sum : l.next + sum (drop l.count-index l.functions) ≡ sum l.functions;
}
