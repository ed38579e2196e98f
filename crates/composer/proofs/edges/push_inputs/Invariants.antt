use Rattle.std.proofs.Common.{◌≡◌, ◌++◌, drop}
use Rattle.std.specs.Prelude.{flat_map}
use Rattle.composer.specs.CallEdges.{input_edges}
use Rattle.composer.proofs.edges.push_inputs.Given as goal

abbrev pub invariant-loop-input : goal.invariant-loop-input
invariant-loop-input l = l.out.items ++ flat_map (input_edges l.system l.sets.sets l.m l.site) (drop l.input-index l.numbers.args) ≡ l.fn.out.items ++ flat_map (input_edges l.system l.sets.sets l.m l.site) l.numbers.args
