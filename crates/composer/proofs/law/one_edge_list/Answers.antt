use Rattle.composer.proofs.OneList.{one_edge_list as one}
use Rattle.composer.proofs.law.one_edge_list.Goals as goal

pub returns : goal.returns
returns c = one
