use Rattle.std.proofs.Common.{◌≡◌, List, ℕ, refl, subst, sym, ◌∙◌}
use Rattle.jam_app.specs.declared.answers.line.Line.TheVariants.{Nothing}
use Rattle.jam_app.specs.declared.answers.status.Status.{Status}
use Rattle.jam_app.specs.Lines.{TellsStatus}
use Rattle.jam_app.specs.Outcomes.{Writes}
use Rattle.jam_app.specs.Written.{TakesAll}
use Rattle.jam_app.proofs.Finishing.{done_told, done_writes}
use Rattle.jam_app.proofs.top.written.Goals as goal

pub returns-in-Ok-clause-writes : goal.returns-in-Ok-clause-writes
returns-in-Ok-clause-writes g c =
    let old = g.O.Sink.taken c.args.out.now in
    let new = g.O.Sink.taken c.write_all.new.out in
    let output = c.args.output.now in
    let all : TakesAll old new output.text = subst (TakesAll old new) (c.as_bytes.ensures.value ∙ c.as_str.ensures) c.in-Ok.ensures.all in
    subst (Writes old new _ _ output) (sym c.done.ensures) (done_writes old new _ _ output output.alarmed refl c.in-Ok.ensures.cause.kept all)

pub returns-in-Ok-clause-line : goal.returns-in-Ok-clause-line
returns-in-Ok-clause-line g c = subst (λ (s : Status). TellsStatus s Nothing) (sym c.done.ensures) (done_told c.args.output.now.alarmed)
