use Rattle.std.proofs.Common.{sym, ◌∙◌}
use Rattle.lock_reader.proofs.PlaceLemmas.{owner_none}
use Rattle.lock_reader.proofs.place.owner_at.Goals as goal

pub returns : goal.returns
returns c = owner_none c.args.entries.now c.args.location.now c.args.path.now c.place_of.result c.place_of.ensures (sym c.owns.ensures ∙ c.if-not-owns.false)
