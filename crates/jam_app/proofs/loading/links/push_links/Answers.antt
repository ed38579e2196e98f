use Rattle.std.proofs.Common.{[], length, map, sym, ap, ◌∙◌, subst, arith}
use Rattle.std.specs.Option.{option_map}
use Rattle.std.proofs.lemmas.List.{length-map, take_all}
use Rattle.std.proofs.lemmas.Option.{slice_get-map}
use Rattle.jam_app.specs.declared.loading.loaded.Loaded.{Loaded}
use Rattle.jam_app.specs.Links.{Adds, AreUpTo, LinksAmong}
use Rattle.jam_app.proofs.Ascending.{up_to_more}
use Rattle.jam_app.proofs.LinkLemmas.{Adds-nothing, among_more}
use Rattle.jam_app.proofs.loading.links.push_links.Goals as goal

pub loop-led-init : goal.loop-led-init
loop-led-init c = (Adds-nothing (LinksAmong c.args.loaded.now c.args.m []) c.args.links.now.items (λ x l. omega (arith, l.here.1)), c.requires.before)

pub loop-led-preserved : goal.loop-led-preserved
loop-led-preserved c =
    let loaded = c.args.loaded.now in
    let lists = λ (x : Loaded). x.summary.lists in
    let from = c.requires.led in (
      among_more loaded c.args.m c.args.targets.now c.loop-led.led-index c.led-item.result _ _ _ c.loop-led-test.true (sym c.led-item.is) c.loop-led.invariant.0 (c.in_ok-push_link.ensures {u = tt}).links,
      up_to_more (map lists loaded) c.args.m from.from.summary.lists c.args.targets.now (slice_get-map lists loaded c.args.m ∙ ap (option_map lists) from.here) from.led
          c.loop-led.led-index c.led-item.result _ _ (length loaded) c.loop-led-test.true (sym c.led-item.is) (length-map loaded lists) c.loop-led.invariant.1 (c.in_ok-push_link.ensures {u = tt}).one,
    )

pub returns-clause-links : goal.returns-clause-links
returns-clause-links c =
    subst (λ ts. Adds (LinksAmong c.args.loaded.now c.args.m ts) c.args.links.now.items c.loop-led.links.items) (take_all c.loop-led.led-index c.args.targets.now c.loop-led-test.false)
    c.loop-led.invariant.0

pub returns-clause-behind : goal.returns-clause-behind
returns-clause-behind c =
    subst (λ ts. AreUpTo (map (λ (x : Loaded). x.summary.lists) c.args.loaded.now) c.args.m ts c.loop-led.links.items) (take_all c.loop-led.led-index c.args.targets.now c.loop-led-test.false)
    c.loop-led.invariant.1
