use Rattle.reach_path.specs.Chains.{AreChains}
use Rattle.reach_path.proofs.chains.chains_of.Given as goal

abbrev pub invariant-loop-i : goal.invariant-loop-i
invariant-loop-i l = AreChains l.graph l.i l.heads.items l.nexts.items
