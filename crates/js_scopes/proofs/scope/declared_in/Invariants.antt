use Rattle.std.proofs.Common.{◌≡◌, map, take}
use Rattle.std.specs.List.{flat_map}
use Rattle.js_tree.specs.Parts.{node_of}
use Rattle.js_scopes.specs.Scopes.{declared_in}
use Rattle.js_scopes.proofs.scope.declared_in.Given as goal

abbrev pub invariant-loop-node : goal.invariant-loop-node
invariant-loop-node l = map (λ t. t.now) l.tokens.items ≡ flat_map (λ x. declared_in (node_of x) l.declaring) (take l.node-index l.nodes)
