use Rattle.std.proofs.Common.{◌≡◌, ◌≤◌, length}
use Rattle.graph_tests.proofs.set_pool_tests.fill.Given as goal

abbrev pub invariant-loop-value : goal.invariant-loop-value
invariant-loop-value g l = record {
  same_length : length l.pool.sets ≡ length l.fn.pool.sets;
  few : l.new ≤ l.value;
}
