use Rattle.std.proofs.Common.{◌≡◌, List, ◌++◌, ◌∷◌, [], get_or, map, ap, sym, ◌∙◌}
use Rattle.jam_base.specs.declared.place.Place.{Place}
use Rattle.js_scopes.specs.declared.function.FunctionInfo.{FunctionInfo}
use Rattle.report_text.specs.declared.shown.Shown.{Shown}
use Rattle.jam_app.specs.Graphs.{shown_at}
use Rattle.jam_app.specs.Printing.{spot_at, spot_of}
use Rattle.jam_app.proofs.PrintLemmas.{map_map, more_mapped, same_item}
use Rattle.jam_app.proofs.answers.printed.shown_functions.Goals as goal

-- what a place past the end would be
abbrev no_place : Place
no_place = record { offset = 0; line = 0; column = 0 }

pub loop-i-preserved : goal.loop-i-preserved
loop-i-preserved c =
    let path = c.args.path.now in
    let text = c.args.text.now in
    let functions = c.args.functions.now in
    let i = c.loop-i.i in
    let spots : map spot_of c.as_slice-places.result.now ≡ map (λ (f : FunctionInfo). spot_at text f.start) functions =
    ap (map spot_of) c.as_slice-places.ensures.value ∙ c.in_ok-places.ensures ∙ ap (map (spot_at text)) (c.as_slice.ensures.value ∙ c.in_ok-starts.ensures)
    ∙ map_map (spot_at text) (λ (f : FunctionInfo). f.start) functions in
    let function = c.index-functions-i.result in
    let spot : spot_of (get_or c.as_slice-places.result.now i no_place) ≡ spot_at text function.start =
    same_item spot_of (λ (f : FunctionInfo). spot_at text f.start) c.as_slice-places.result.now functions i no_place function spots c.loop-i-test.true
    ∙ ap (λ (f : FunctionInfo). spot_at text f.start) (sym c.index-functions-i.is) in
    c.in_ok-push.ensures.items ∙ ap (λ (xs : List Shown). xs ++ c.in_ok-shown_function.field-0 ∷ []) c.loop-i.invariant
    ∙ more_mapped (shown_at path text) [] functions i function c.in_ok-shown_function.field-0 c.loop-i-test.true
    (c.in_ok-shown_function.ensures {u = tt} text spot ∙ ap (shown_at path text) c.index-functions-i.is)
