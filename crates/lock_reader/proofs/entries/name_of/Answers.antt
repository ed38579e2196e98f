use Rattle.std.proofs.Common.{codes, refl}
use Rattle.lock_reader.proofs.Texts.{after_last-none, after_last-split}
use Rattle.lock_reader.proofs.entries.name_of.Goals as goal

pub returns-in-Some-rsplit_once : goal.returns-in-Some-rsplit_once
returns-in-Some-rsplit_once c =
    let found = c.in-Some-rsplit_once.ensures.cases in
    let last = after_last-split _ _ c.args.location.now found.0 found.1 found.2.0 found.2.1 in
    rw (c.in_default.is, last) found.4

pub returns-in-None : goal.returns-in-None
returns-in-None c = let none = after_last-none (codes "node_modules/") c.args.location.now c.in-None.ensures.cases in rw (c.in_default.is, none) refl
