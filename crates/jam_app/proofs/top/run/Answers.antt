use Rattle.jam_app.proofs.Telling.{told_status}
use Rattle.jam_app.proofs.top.run.Goals as goal

pub returns-clause-err : goal.returns-clause-err
returns-clause-err g c =
    told_status (g.E.Sink.taken c.args.err.now) (g.E.Sink.taken c.write.new.err) c.answered-answer.result.status c.answered-answer.result.line c.answered-answer.ensures.line c.write.ensures.front
