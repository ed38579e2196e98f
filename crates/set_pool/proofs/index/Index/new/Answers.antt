use Rattle.std.proofs.Common.{◌∙◌, ap, map}
use Rattle.set_pool.specs.Windows.{table_in}
use Rattle.set_pool.proofs.WindowLemmas.{from_nothing, no_tables}
use Rattle.set_pool.proofs.index.Index.new.Goals as goal

pub returns-clause-tables : goal.returns-clause-tables
returns-clause-tables c = rw (c.in_ok-resize.ensures.items, from_nothing _ _ _ _ c.new-windows.ensures.items c.new-windows.ensures.len) (no_tables _ _)
