use Rattle.std.proofs.Common.{◌≡◌, ◌++◌, [], map, take, drop}
use Rattle.js_tree.specs.Parts.{node_of, tails_behind}
use Rattle.js_tree.proofs.node_list.push_tails.Given as goal

abbrev pub invariant-loop-at : goal.invariant-loop-at
invariant-loop-at l = map node_of l.out.items ++ tails_behind l.head (take l.at l.tails) (drop l.at l.tails) [] ≡ map node_of l.initial.out.items ++ tails_behind l.head [] l.tails []
