use Rattle.std.proofs.Common.{◌≡◌, ◌++◌, [], map, take, drop}
use Rattle.js_tree.specs.Line.{item_of, tail_items}
use Rattle.js_tree.proofs.line_list.push_tails.Given as goal

abbrev pub invariant-loop-at : goal.invariant-loop-at
invariant-loop-at l = map item_of l.out.items ++ tail_items l.head (take l.at l.tails) (drop l.at l.tails) [] ≡ map item_of l.initial.out.items ++ tail_items l.head [] l.tails []
