use Rattle.jam_app.proofs.FileLemmas.{text_stop}
use Rattle.jam_app.proofs.audit.advisories.advisories_in.Goals as goal

pub returns-in-Err-clause-stop : goal.returns-in-Err-clause-stop
returns-in-Err-clause-stop c = text_stop c.args.bytes.now c.in-Err.fault c.wrong_advisories.result c.in-Err.ensures.fault c.wrong_advisories.ensures
