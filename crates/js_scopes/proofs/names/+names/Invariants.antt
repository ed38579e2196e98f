use Rattle.std.proofs.Common.{◌≡◌, ◌+◌, ◌*◌, ◌++◌, take}
use Rattle.std.specs.List.{flat_map}
use Rattle.js_tree.specs.Parts.{node_of, height}
use Rattle.js_tree.proofs.GatherLemmas.{highest_given}
use Rattle.js_scopes.specs.Around.{around_of, IsNumberedBy}
use Rattle.js_scopes.specs.Names.{Numbering}
use Rattle.js_scopes.specs.Scopes.{names_in}
use Rattle.js_scopes.proofs.names.+names.Given as goal

abbrev pub invariant-push_nodes-loop-node : goal.invariant-push_nodes-loop-node
invariant-push_nodes-loop-node l = (k : Numbering) → IsNumberedBy k l.numbers → l.out.items ≡ l.initial.out.items ++ flat_map (λ n. names_in k (node_of n) (around_of l.around)) (take l.node-index l.nodes)

abbrev pub decreases-push_node : goal.decreases-push_node
decreases-push_node l = 2 * height (node_of l.node) + 0

abbrev pub decreases-push_nodes : goal.decreases-push_nodes
decreases-push_nodes l = 2 * highest_given l.nodes.now + 1
