use Rattle.std.proofs.Common.{◌≡◌, ◌∙◌, ap, length, replicate, subst}
use Rattle.set_pool.specs.Chains.{AreChained, empty}
use Rattle.set_pool.proofs.ChainLemmas.{no_lists, none_chained}
use Rattle.set_pool.proofs.WindowLemmas.{from_nothing}
use Rattle.set_pool.proofs.lists.Lists.new.Goals as goal

pub returns-clause-lists : goal.returns-clause-lists
returns-clause-lists c = rw (c.in_ok-resize.ensures.items, from_nothing _ _ _ _ c.new-ends.ensures.items c.new-ends.ensures.len) (no_lists _ _)

pub invariant_of-result : goal.invariant_of-result
invariant_of-result c = rw (c.new.ensures.items, c.in_ok-resize.ensures.items, from_nothing _ _ _ _ c.new-ends.ensures.items c.new-ends.ensures.len) (none_chained _ _)
