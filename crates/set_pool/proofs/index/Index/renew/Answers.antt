use Rattle.std.proofs.Common.{◌≡◌, ◌<◌, ◌++◌, length, replicate, ℕ, arith, sym, ◌∙◌, ap, map}
use Rattle.std.proofs.lemmas.List.{length-map}
use Rattle.set_pool.specs.Tables.{none}
use Rattle.set_pool.specs.Windows.{Tables, table_in}
use Rattle.set_pool.proofs.WindowLemmas.{renewed, resized}
use Rattle.set_pool.proofs.index.Index.renew.Goals as goal

pub returns-clause-tables : goal.returns-clause-tables
returns-clause-tables c =
    let slots = c.self.inside.slots.items in
    let windows = c.self.inside.windows.items in
    let lt : c.args.set < length windows =
    let e = length-map windows (table_in slots) in
    let f = ap (λ (v : Tables). length v.tables) c.self.view_is in
    let g = c.requires.set in
    omega (arith, e, f, g) in
    let start : c.len-start.result ≡ length slots = let e = c.len-start.ensures in let f = c.self.inside.slots.ok in omega (arith, e, f) in
    rw (← c.self.view_is) (renewed slots c.resize.new.self.items windows c.args.set c.len-start.result c.args.size (rw c.len-start.ensures c.self.invariant) start (resized slots c.resize.new.self.items c.len-start.result _ c.args.size start (sym c.len-start.ensures) c.in_ok-resize.ensures.items) lt)
