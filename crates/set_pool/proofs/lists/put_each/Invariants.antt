use Rattle.std.proofs.Common.{take}
use Rattle.set_pool.specs.Windows.{Puts}
use Rattle.set_pool.proofs.lists.put_each.Given as goal

abbrev pub invariant-loop-value : goal.invariant-loop-value
invariant-loop-value l = Puts l.list (take l.value-index l.values) l.fn.index l.index
