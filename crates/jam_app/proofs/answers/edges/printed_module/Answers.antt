use Rattle.std.proofs.Common.{length, arith, ap}
use Rattle.jam_app.proofs.PrintLemmas.{text_short}
use Rattle.jam_app.proofs.answers.edges.printed_module.Goals as goal

pub of-requires : goal.of-requires
of-requires c = omega (arith, ap length c.place_text-text.ensures, text_short c.as_str.result.now)
