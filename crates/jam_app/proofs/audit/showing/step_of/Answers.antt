use Rattle.std.proofs.Common.{◌≡◌, length, map, ap, sym, ◌∙◌}
use Rattle.std.proofs.lemmas.Result.{IfOk-weaker}
use Rattle.jam_app.proofs.PrintLemmas.{found_step}
use Rattle.jam_app.proofs.audit.showing.step_of.Goals as goal

pub returns-in-Ok : goal.returns-in-Ok
returns-in-Ok c =
    let sources = c.args.sources.now in
    let step = c.index-steps-place.result in
    IfOk-weaker c.copied_step.result _ _
    (λ made e. e ∙ found_step sources.printed.now sources.edges.now c.args.steps.now c.in-Ok.place c.args.edge.now step c.requires c.in-Ok.ensures.bound c.in-Ok.ensures.ok c.index-steps-place.is) c.copied_step.ensures
