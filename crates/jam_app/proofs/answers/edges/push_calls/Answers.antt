use Rattle.std.proofs.Common.{◌≡◌, List, ◌++◌, ◌∷◌, [], get_or, ap, sym, ◌∙◌}
use Rattle.jam_base.specs.declared.edge.Edge.{Edge}
use Rattle.jam_base.specs.declared.place.Place.{Place}
use Rattle.report_text.specs.declared.shown.PathStep.{PathStep}
use Rattle.jam_app.specs.Printing.{call_in, edge_among, spot_at, spot_of}
use Rattle.jam_app.proofs.PrintLemmas.{edge_at, more_mapped, same_item}
use Rattle.jam_app.proofs.answers.edges.push_calls.Goals as goal

-- what an item past the end would be
abbrev no_edge : Edge
no_edge = record { caller = record { «module» = 0; function = 0 }; offset = 0; callee = record { «module» = 0; function = 0 } }

abbrev no_place : Place
no_place = record { offset = 0; line = 0; column = 0 }

pub loop-i-preserved : goal.loop-i-preserved
loop-i-preserved c =
    let printed = c.args.printed.now in
    let m = c.args.caller.now in
    let i = c.loop-i.i in
    let edge : Edge = get_or c.args.edges.now i no_edge in
    let spot : spot_of (get_or c.args.places.now i no_place) ≡ spot_at m.text edge.offset =
    same_item spot_of (λ (e : Edge). spot_at m.text e.offset) c.args.places.now c.args.edges.now i no_place no_edge c.requires.places c.loop-i-test.true in
    let step = c.in_ok-call_at.ensures {u = tt} edge.offset spot in
    c.in_ok-push.ensures.items ∙ ap (λ (xs : List PathStep). xs ++ c.in_ok-call_at.field-0 ∷ []) c.loop-i.invariant
    ∙ more_mapped (edge_among printed) c.args.steps.now.items c.args.edges.now i no_edge c.in_ok-call_at.field-0 c.loop-i-test.true
    (step ∙ ap (λ s. call_in edge.offset s m) (c.in_ok-callee.ensures {u = tt}) ∙ sym (edge_at printed edge m (c.requires.callers i no_edge c.loop-i-test.true)))
