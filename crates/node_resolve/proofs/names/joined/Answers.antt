use Rattle.std.proofs.Common.{codes, ◌∙◌}
use Rattle.node_resolve.proofs.Texts.{joined_texts}
use Rattle.node_resolve.proofs.names.joined.Goals as goal

pub returns : goal.returns
returns c = (c.in_ok-join.ensures {u = tt}).ok ∙ joined_texts (codes "/") c.args.parts.now
