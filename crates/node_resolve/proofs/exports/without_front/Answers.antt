use Rattle.node_resolve.proofs.Texts.{front_stripped}
use Rattle.node_resolve.proofs.exports.without_front.Goals as goal

pub returns : goal.returns
returns c = front_stripped c.args.front.now c.args.text.now _ c.strip_prefix.ensures.cases
