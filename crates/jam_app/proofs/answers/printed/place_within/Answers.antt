use Rattle.std.proofs.Common.{ap, arith, ◌∙◌}
use Rattle.jam_app.specs.Printing.{spot_of}
use Rattle.jam_app.proofs.Within.{floor_spot}
use Rattle.jam_app.proofs.answers.printed.place_within.Goals as goal

pub place_of-requires-clause-below : goal.place_of-requires-clause-below
place_of-requires-clause-below c = omega (arith, c.floor_char_boundary.ensures.boundary.0, c.requires)

pub returns : goal.returns
returns c =
    let floor = c.floor_char_boundary.ensures in
    ap spot_of c.place_of.ensures ∙ floor_spot c.args.text.now c.floor_char_boundary.result c.args.offset c.utf8.text floor.boundary floor.nearest floor.bound
