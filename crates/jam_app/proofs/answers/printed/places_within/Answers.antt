use Rattle.std.proofs.Common.{map, ap, ◌∙◌}
use Rattle.std.proofs.lemmas.Result.{IfOk-weaker}
use Rattle.jam_base.specs.Place.{place_at}
use Rattle.jam_app.specs.Printing.{spot_at, spot_of}
use Rattle.jam_app.proofs.PrintLemmas.{map_map}
use Rattle.jam_app.proofs.answers.printed.places_within.Goals as goal

pub returns : goal.returns
returns c =
    IfOk-weaker c.places_of.result _ _
    (λ places e. ap (map spot_of) e ∙ map_map spot_of (place_at c.args.text.now) c.as_slice.result.now ∙ ap (map (spot_at c.args.text.now)) c.as_slice.ensures.value ∙ c.in_ok-within.ensures.spots)
    c.places_of.ensures
