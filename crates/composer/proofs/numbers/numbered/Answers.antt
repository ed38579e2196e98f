use Rattle.std.proofs.Common.{rules}
use Rattle.composer.proofs.numbers.numbered.Goals as goal

pub returns-clause-values : goal.returns-clause-values
returns-clause-values c =
    rw c.of.ensures (record { native = search (rules); values = c.in_ok-functions.ensures.values })
