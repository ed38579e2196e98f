use Rattle.std.proofs.Common.{◌≡◌, [], List, Option, map, ap, sym, ◌∙◌}
use Rattle.std.specs.Prelude.{unwrap_or}
use Rattle.std.proofs.lemmas.Result.{IfOk-weaker}
use Rattle.jam_base.specs.declared.edge.Edge.{Edge}
use Rattle.jam_app.specs.Printing.{edge_among}
use Rattle.jam_app.proofs.audit.showing.path_to.Goals as goal

pub returns-in-Some : goal.returns-in-Some
returns-in-Some c =
    let printed = c.args.sources.now.printed.now in
    IfOk-weaker c.shown_path.result _ _
    (λ shown e. e ∙ ap (map (edge_among printed)) (c.as_slice.ensures ∙ sym (ap (λ (o : Option (List Edge)). unwrap_or o []) (sym c.in_ok-path.ensures ∙ c.in-Some.is)))) c.shown_path.ensures

pub returns-in-None : goal.returns-in-None
returns-in-None c =
    let printed = c.args.sources.now.printed.now in
    c.new.ensures.items ∙ sym (ap (λ (o : Option (List Edge)). map (edge_among printed) (unwrap_or o [])) (sym c.in_ok-path.ensures ∙ c.in-None.is))
