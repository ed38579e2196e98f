use Rattle.std.proofs.Common.{◌∙◌, subst}
use Rattle.jam_app.specs.Written.{TakesFront}
use Rattle.jam_app.proofs.Pieces.{front_written}
use Rattle.jam_app.proofs.answers.line.Line.write.Goals as goal

pub returns-clause-front : goal.returns-clause-front
returns-clause-front g c =
    let old = g.E.Sink.taken c.args.err.now in
    let new = g.E.Sink.taken c.write_all.new.out in
    subst (TakesFront old new) (c.as_bytes.ensures.value ∙ c.text-text.ensures) (front_written old new c.as_bytes.result.now c.write_all.result c.write_all.ensures.all c.write_all.ensures.front)
