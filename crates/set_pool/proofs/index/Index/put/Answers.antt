use Rattle.std.proofs.Common.{◌≡◌, ◌<◌, ◌∷◌, [], length, ℕ, arith, sym, ◌∙◌, ap, subst, map}
use Rattle.std.proofs.lemmas.List.{length-map}
use Rattle.set_pool.specs.Sets.{set_at}
use Rattle.set_pool.specs.Tables.{IsSpot}
use Rattle.set_pool.specs.Windows.{Tables, table_in, window}
use Rattle.set_pool.proofs.Members.{same_read}
use Rattle.set_pool.proofs.WindowLemmas.{puts_here}
use Rattle.set_pool.proofs.index.Index.put.Goals as goal

pub returns-in-Some : goal.returns-in-Some
returns-in-Some c =
    let slots = c.self.inside.slots.items in
    let windows = c.self.inside.windows.items in
    let lt : c.args.set < length windows =
    let e = length-map windows (table_in slots) in
    let f = ap (λ (v : Tables). length v.tables) c.self.view_is in
    let g = c.requires.set in
    omega (arith, e, f, g) in
    let spot : IsSpot (set_at (map (table_in slots) windows) c.args.set) c.args.value c.in-Some.spot =
    subst (λ x. IsSpot x c.args.value c.in-Some.spot) (c.table.ensures ∙ sym (ap (λ (v : Tables). set_at v.tables c.args.set) c.self.view_is)) c.in-Some.ensures in
    rw (← c.self.view_is) (puts_here slots windows c.args.set c.in-Some.spot c.args.value _ _ _ c.index.result.now c.self.invariant lt (c.index.ensures ∙ same_read windows c.args.set _ _ lt) c.requires.value spot)
