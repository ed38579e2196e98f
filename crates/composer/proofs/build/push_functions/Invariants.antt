use Rattle.std.proofs.Common.{◌≡◌, ◌++◌, drop, map}
use Rattle.std.specs.List.{enumerate_from}
use Rattle.composer.specs.Application.{callable_of}
use Rattle.composer.proofs.build.push_functions.Given as goal

abbrev pub invariant-loop-f : goal.invariant-loop-f
invariant-loop-f l = l.out.items ++ map (callable_of l.m) (enumerate_from l.f (drop l.f l.functions)) ≡ l.fn.out.items ++ map (callable_of l.m) (enumerate_from 0 l.functions)
