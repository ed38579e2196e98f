use Rattle.lock_reader.proofs.Texts.{after_front-stripped}
use Rattle.lock_reader.proofs.owner.after_front.Goals as goal

pub returns : goal.returns
returns c = after_front-stripped c.args.front.now c.args.text.now c.strip_prefix.result c.strip_prefix.ensures.cases
