use Rattle.std.proofs.Common.{length, refl, sym, subst}
use Rattle.std.proofs.lemmas.Option.{slice_get_within}
use Rattle.jam_app.specs.Links.{Adds, LinksOf, MayAdd}
use Rattle.jam_app.specs.Links.MayAdd.{none, one}
use Rattle.jam_app.proofs.LinkLemmas.{one_link, no_link}
use Rattle.jam_app.proofs.loading.links.push_link.Goals as goal

pub returns-in_ok-push-clause-links : goal.returns-in_ok-push-clause-links
returns-in_ok-push-clause-links c =
    subst (Adds (LinksOf c.args.loaded.now c.args.m c.args.led.now) c.args.links.now.items) (sym c.in_ok-push.ensures.items)
    (one_link c.args.loaded.now c.args.m _ c.in-Some.target c.args.led.now c.args.links.now.items refl c.in-Some.ensures)

pub returns-in_ok-push-clause-one : goal.returns-in_ok-push-clause-one
returns-in_ok-push-clause-one c =
    let s = (c.in-Some.ensures c.in-Some.target).0 refl in
    subst (MayAdd (length c.args.loaded.now) c.args.m c.args.led.now.offset c.args.links.now.items) (sym c.in_ok-push.ensures.items)
    (one c.in-Some.target (slice_get_within c.args.loaded.now c.in-Some.target s.one s.here))

pub returns-in_default-clause-links : goal.returns-in_default-clause-links
returns-in_default-clause-links c = no_link c.args.loaded.now c.args.m c.args.led.now c.args.links.now.items c.place_of_path.result c.in_default.is c.place_of_path.ensures

pub returns-in_default-clause-one : goal.returns-in_default-clause-one
returns-in_default-clause-one c = none
