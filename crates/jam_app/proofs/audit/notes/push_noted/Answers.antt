use Rattle.std.proofs.Common.{◌≡◌, List, ℕ, ◌++◌, ◌∷◌, [], get_or, map, length, ap, sym, ◌∙◌}
use Rattle.jam_base.specs.declared.place.Place.{Place}
use Rattle.report_text.specs.declared.report.Note.{Note}
use Rattle.jam_app.specs.declared.audit.noted.Noted.{Noted}
use Rattle.jam_app.specs.Notes.{note_at}
use Rattle.jam_app.specs.Printing.{spot_at, spot_of}
use Rattle.jam_app.proofs.PrintLemmas.{more_mapped, same_item}
use Rattle.jam_app.proofs.audit.notes.push_noted.Goals as goal

-- what a place past the end would be
abbrev no_place : Place
no_place = record { offset = 0; line = 0; column = 0 }

pub loop-i-preserved : goal.loop-i-preserved
loop-i-preserved c text spots =
    let noted = c.args.noted.now in
    let places = c.args.places.now in
    let i = c.loop-i.i in
    let one = c.index-noted-i.result in
    let spot : spot_of (get_or places i no_place) ≡ spot_at text one.offset =
    same_item spot_of (λ (n : Noted). spot_at text n.offset) places noted i no_place one spots c.loop-i-test.true ∙ ap (λ (n : Noted). spot_at text n.offset) (sym c.index-noted-i.is) in
    c.in_ok-push.ensures.items ∙ ap (λ (xs : List Note). xs ++ c.in_ok-note_of.field-0 ∷ []) (c.loop-i.invariant text spots)
    ∙ more_mapped (note_at c.args.path.now text) c.args.notes.now.items noted i one c.in_ok-note_of.field-0 c.loop-i-test.true
    (c.in_ok-note_of.ensures {u = tt} text spot ∙ ap (note_at c.args.path.now text) c.index-noted-i.is)
