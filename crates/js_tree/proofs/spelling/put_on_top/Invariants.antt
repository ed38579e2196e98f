use Rattle.std.proofs.Common.{◌≡◌, ◌++◌, reverse}
use Rattle.js_tree.proofs.spelling.put_on_top.Given as goal

abbrev pub invariant-loop-item : goal.invariant-loop-item
invariant-loop-item l = l.left.items ++ reverse l.line.items ≡ l.initial.left.items ++ reverse l.initial.line.items

abbrev pub decreases-loop-item : goal.decreases-loop-item
decreases-loop-item l = goal.left-loop-item l
