use Rattle.std.proofs.Common.{◌≡◌, map}
use Rattle.std.specs.List.{range_with_len}
use Rattle.flow_rules.specs.declared.vertex.Vertex.TheVariants.{Arg}
use Rattle.composer.specs.Application.{at_module}
use Rattle.composer.proofs.build.args_of.Given as goal

abbrev pub invariant-loop-index : goal.invariant-loop-index
invariant-loop-index l = l.out.items ≡ map (λ i. at_module l.m (Arg l.offset l.part i)) (range_with_len 0 l.index)
