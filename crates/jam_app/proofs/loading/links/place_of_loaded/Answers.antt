use Rattle.std.proofs.Common.{◌≡◌, ℕ, sym, ◌∙◌}
use Rattle.std.proofs.lemmas.Option.{none-some}
use Rattle.jam_app.proofs.LinkLemmas.{stands_somewhere}
use Rattle.jam_app.proofs.loading.links.place_of_loaded.Goals as goal

pub returns-in-Some : goal.returns-in-Some
returns-in-Some c = (c.place_of_path.ensures c.in-Some.place).0 c.in-Some.is

pub returns-in-None : goal.returns-in-None
returns-in-None c =
    let there = stands_somewhere c.args.loaded.now c.args.path.now c.requires.there in
    absurd (none-some there.0 (sym c.in-None.is ∙ (c.place_of_path.ensures there.0).1 there.1))
