use Rattle.std.specs.Option.{is_some}
use Rattle.reach_path.specs.Reached.{path_to}
use Rattle.alarms.specs.Searching.{Adds, HitsOne}
use Rattle.alarms.proofs.SearchLemmas.{Below}
use Rattle.alarms.proofs.search.Owned.push_functions.Given as goal

abbrev pub invariant-loop-f : goal.invariant-loop-f
invariant-loop-f l = Adds (Below (HitsOne (λ f. is_some (path_to l.reach f)) l.i l.selectors l.self) l.self.functions.now l.f) l.fn.found.items l.found.items
