use Rattle.std.proofs.Common.{[]}
use Rattle.std.specs.Option.{is_some}
use Rattle.reach_path.specs.Reached.{path_to}
use Rattle.alarms.specs.Searching.{Adds, OfModule}
use Rattle.alarms.proofs.SearchLemmas.{Below}
use Rattle.alarms.proofs.search.alarms.Given as goal

abbrev pub invariant-loop-m : goal.invariant-loop-m
invariant-loop-m l = Adds (Below (λ m part. OfModule l.lock.entries l.advisories l.parts (λ f. is_some (path_to l.reach f)) m) l.parts l.m) [] l.found.items
