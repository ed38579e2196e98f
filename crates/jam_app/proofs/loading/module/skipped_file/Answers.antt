use Rattle.std.proofs.Common.{◌≡◌, refl, ap}
use Rattle.jam_app.specs.Texts.{none}
use Rattle.jam_app.proofs.loading.module.skipped_file.Goals as goal

pub returns-clause-parsed : goal.returns-clause-parsed
returns-clause-parsed c = none refl refl c.requires (λ i. record { body = c.new.ensures i })
