use Rattle.std.proofs.Common.{◌≡◌, [], length, map, ap, refl, sym, ◌∙◌}
use Rattle.jam_app.specs.Showing.{shown_found}
use Rattle.jam_app.proofs.Ends.{is_nothing}
use Rattle.jam_app.proofs.audit.showing.shown_alarms.Goals as goal

pub returns-then-is_empty : goal.returns-then-is_empty
returns-then-is_empty c =
    let found = c.args.found.now in
    let none : found ≡ [] = is_nothing found (length found) c.is_empty.result refl c.is_empty.ensures c.if-is_empty.true in
    c.new-alarms.ensures.items ∙ sym (ap (map (shown_found c.args.sources.now)) none)
