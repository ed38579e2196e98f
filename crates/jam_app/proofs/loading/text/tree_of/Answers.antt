use Rattle.std.proofs.Common.{Err, ap, ◌∙◌}
use Rattle.jam_base.specs.declared.place.Place.{Place}
use Rattle.jam_app.proofs.Refusing.{bad_text, boundary_at, construct, construct_text, elsewhere, one_tree, small_stop}
use Rattle.jam_app.proofs.loading.text.tree_of.Goals as goal

pub returns-in-Ok : goal.returns-in-Ok
returns-in-Ok g c = one_tree c.args.text.now c.in-Ok.tree c.parse.result c.in-Ok.is c.in-Ok.ensures.found c.parse.ensures.only

pub returns-in-Err-TooLarge : goal.returns-in-Err-TooLarge
returns-in-Err-TooLarge g c = c.parse.ensures.too_large.only _ (c.in-Err-TooLarge.is ∙ ap Err c.in-Err-TooLarge.field-0-is)

pub returns-in-Err-NotInProfile : goal.returns-in-Err-NotInProfile
returns-in-Err-NotInProfile g c =
    bad_text c.args.text.now c.in-Err-NotInProfile.at _ _ c.parse.result elsewhere (c.in-Err-NotInProfile.is ∙ ap Err c.in-Err-NotInProfile.field-0-is)
    c.parse.ensures.too_large c.parse.ensures.placed c.parse.ensures.unspelled (ap (λ (p : Place). p.offset) c.place_of.ensures)

pub place_of-requires-clause-below : goal.place_of-requires-clause-below
place_of-requires-clause-below g c =
    small_stop c.args.text.now c.in-Err-NotInProfile.at _ c.parse.result elsewhere (c.in-Err-NotInProfile.is ∙ ap Err c.in-Err-NotInProfile.field-0-is) c.parse.ensures.too_large c.parse.ensures.placed

pub place_of-requires-clause-boundary : goal.place_of-requires-clause-boundary
place_of-requires-clause-boundary g c =
    boundary_at c.args.text.now c.in-Err-NotInProfile.at _ c.parse.result elsewhere (c.in-Err-NotInProfile.is ∙ ap Err c.in-Err-NotInProfile.field-0-is) c.parse.ensures.at_character

pub returns-in-Err-Construct : goal.returns-in-Err-Construct
returns-in-Err-Construct g c =
    construct_text c.args.text.now c.in-Err-Construct.at _ _ c.parse.result (c.in-Err-Construct.is ∙ ap Err c.in-Err-Construct.field-0-is)
    c.parse.ensures.too_large c.parse.ensures.placed c.parse.ensures.unspelled c.parse.ensures.construct (ap (λ (p : Place). p.offset) c.place_of-in-Err-Construct.ensures)

pub place_of-requires-in-Err-Construct-clause-below : goal.place_of-requires-in-Err-Construct-clause-below
place_of-requires-in-Err-Construct-clause-below g c =
    small_stop c.args.text.now c.in-Err-Construct.at _ c.parse.result (construct _) (c.in-Err-Construct.is ∙ ap Err c.in-Err-Construct.field-0-is) c.parse.ensures.too_large c.parse.ensures.placed

pub place_of-requires-in-Err-Construct-clause-boundary : goal.place_of-requires-in-Err-Construct-clause-boundary
place_of-requires-in-Err-Construct-clause-boundary g c =
    boundary_at c.args.text.now c.in-Err-Construct.at _ c.parse.result (construct _) (c.in-Err-Construct.is ∙ ap Err c.in-Err-Construct.field-0-is) c.parse.ensures.at_character
