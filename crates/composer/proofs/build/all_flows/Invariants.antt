use Rattle.std.proofs.Common.{◌≡◌, ◌++◌, drop, map}
use Rattle.std.specs.Prelude.{flat_map}
use Rattle.std.specs.List.{enumerate_from}
use Rattle.composer.specs.Parts.{lists_of}
use Rattle.composer.specs.Application.{flow_of, of_each}
use Rattle.composer.proofs.build.all_flows.Given as goal

abbrev pub invariant-loop-m : goal.invariant-loop-m
invariant-loop-m l = l.out.items ++ flat_map (λ (m, c). map (flow_of m) c.flows) (enumerate_from l.m (lists_of (drop l.m l.parts))) ≡ of_each (lists_of l.parts) (λ m c. map (flow_of m) c.flows)
