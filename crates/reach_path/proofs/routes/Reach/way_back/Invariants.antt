use Rattle.std.proofs.Common.{◌≡◌, ◌++◌, ◌-◌, ◌<◌, length}
use Rattle.reach_path.specs.Reached.{way_back}
use Rattle.reach_path.proofs.routes.Reach.way_back.Given as goal

abbrev pub invariant-loop-step : goal.invariant-loop-step
invariant-loop-step l = record {
  inside : l.at < length l.self.levels;
  way : l.edges.items ++ way_back l.self (l.count - l._step) l.at ≡ way_back l.self l.count l.number;
}
