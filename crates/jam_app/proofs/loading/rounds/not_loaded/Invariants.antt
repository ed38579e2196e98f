use Rattle.std.proofs.Common.{◌≡◌, ◌++◌}
use Rattle.std.specs.List.{filter}
use Rattle.jam_app.proofs.Following.{is_new}
use Rattle.jam_app.proofs.loading.rounds.not_loaded.Given as goal

abbrev pub invariant-loop-path : goal.invariant-loop-path
invariant-loop-path l = record {
  can : goal.iterator-loop-path.can_next l.path-iterator;
  finite : goal.iterator-loop-path.is_finite l.path-iterator;
  parts : filter (is_new l.loaded) l.fn.paths.items ≡ l.next.items ++ filter (is_new l.loaded) l.path-iterator.rest.items;
}
