use Rattle.std.specs.Option.{is_some}
use Rattle.reach_path.specs.Reached.{path_to}
use Rattle.alarms.specs.Searching.{Adds, HitsAt}
use Rattle.alarms.proofs.SearchLemmas.{Below}
use Rattle.alarms.proofs.search.Owned.push_all.Given as goal

abbrev pub invariant-loop-k : goal.invariant-loop-k
invariant-loop-k l = Adds (Below (λ k place. HitsAt (λ f. is_some (path_to l.reach f)) l.advisories l.self place) l.places l.k) l.fn.found.items l.found.items
