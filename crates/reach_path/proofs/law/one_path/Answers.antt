use Rattle.reach_path.proofs.PathLemmas.{one_path as one}
use Rattle.reach_path.proofs.law.one_path.Goals as goal

pub returns : goal.returns
returns c = one
