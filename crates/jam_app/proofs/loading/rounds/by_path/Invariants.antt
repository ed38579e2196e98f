use Rattle.std.proofs.Common.{◌≡◌, ◌++◌}
use Rattle.std.specs.Map.{values_of}
use Rattle.jam_app.proofs.loading.rounds.by_path.Given as goal

abbrev pub invariant-loop-module : goal.invariant-loop-module
invariant-loop-module l = record {
  can : goal.iterator-loop-module.can_next l.module-iterator;
  finite : goal.iterator-loop-module.is_finite l.module-iterator;
  listed : values_of l.fn.modules.entries ≡ l.listed.items ++ values_of l.module-iterator;
}
