use Rattle.std.proofs.Common.{length}
use Rattle.graph_tests.proofs.reach_path_tests.+ascend.Given as goal

abbrev pub decreases-ascend : goal.decreases-ascend
decreases-ascend l = length l.edges.now
