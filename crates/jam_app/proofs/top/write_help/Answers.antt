use Rattle.jam_app.specs.Lines.{text_of}
use Rattle.jam_app.proofs.top.write_help.Goals as goal

pub returns-clause-front : goal.returns-clause-front
returns-clause-front g c = (text_of c.of.result, c.write.ensures.front)
