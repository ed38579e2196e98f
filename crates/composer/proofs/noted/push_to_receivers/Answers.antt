use Rattle.std.proofs.Common.{append_assoc}
use Rattle.composer.proofs.StepLemmas.{to_each_push}
use Rattle.composer.proofs.noted.push_to_receivers.Goals as goal

pub returns : goal.returns
returns c = rw (to_each_push, ← append_assoc) (cc (c.in_ok-push.ensures.items, c.in_ok-push_to_each.ensures))
