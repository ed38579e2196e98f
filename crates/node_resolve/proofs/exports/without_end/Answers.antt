use Rattle.node_resolve.proofs.Texts.{end_stripped}
use Rattle.node_resolve.proofs.exports.without_end.Goals as goal

pub returns : goal.returns
returns c = end_stripped c.args.end.now c.args.text.now _ c.strip_suffix.ensures.cases
