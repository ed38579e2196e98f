use Rattle.std.proofs.Common.{◌≡◌, ◌++◌, map, reverse}
use Rattle.js_tree.proofs.walk.push_pending.Given as goal

abbrev pub invariant-loop-node : goal.invariant-loop-node
invariant-loop-node g l =
    l.left.items ++ reverse (map (λ n. record { node = n; around = l.around }) l.nodes.items)
    ≡ l.initial.left.items ++ reverse (map (λ n. record { node = n; around = l.around }) l.initial.nodes.items)

abbrev pub decreases-loop-node : goal.decreases-loop-node
decreases-loop-node g l = goal.left-loop-node g l
