use Rattle.std.proofs.Common.{subst, sym}
use Rattle.jam_app.specs.Loading.{IsAnalysed}
use Rattle.jam_app.proofs.answers.edges.printed_modules.Goals as goal

pub printed_module-requires : goal.printed_module-requires
printed_module-requires c = subst IsAnalysed (sym c.one-item.is) (c.requires c.loop-one.one-index c.one-item.result c.loop-one-test.true)
