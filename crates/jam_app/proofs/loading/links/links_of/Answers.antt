use Rattle.std.proofs.Common.{◌≡◌, [], length, map, Some, refl, sym, ap, ◌∙◌, subst, arith}
use Rattle.std.specs.Prelude.{slice_get}
use Rattle.std.proofs.lemmas.List.Elements.{All-get_or}
use Rattle.std.proofs.lemmas.Option.{slice_get_read}
use Rattle.jam_app.specs.declared.loading.loaded.Loaded.{Loaded}
use Rattle.jam_app.specs.Links.{Adds, AreUpTo, LeadFrom, LinksAmong, LinksBelow}
use Rattle.jam_app.specs.Loading.{AreLed, IsAnalysed}
use Rattle.jam_app.proofs.Ascending.{up_to_next, up_to_none}
use Rattle.jam_app.proofs.LinkLemmas.{Adds-nothing, below_more}
use Rattle.jam_app.proofs.loading.links.links_of.Goals as goal

pub loop-m-init : goal.loop-m-init
loop-m-init c = (
  subst (Adds (LinksBelow c.args.loaded.now 0) []) (sym c.new-links.ensures.items) (Adds-nothing (LinksBelow c.args.loaded.now 0) [] (λ x l. omega (arith, l.below))),
  subst (AreUpTo (map (λ (x : Loaded). x.summary.lists) c.args.loaded.now) 0 []) (sym c.new-links.ensures.items) (up_to_none (map (λ (x : Loaded). x.summary.lists) c.args.loaded.now) 0 []),
)

pub push_links-requires-clause-led : goal.push_links-requires-clause-led
push_links-requires-clause-led c =
    let loaded = c.args.loaded.now in
    let m = c.loop-m.m in
    let one = c.index-loaded-m.result in
    let analysed : IsAnalysed one = subst IsAnalysed (sym c.index-loaded-m.is) (All-get_or IsAnalysed loaded m one c.loop-m-test.true c.requires.analysed) in
    record {
      from = one;
      here = slice_get_read loaded (length loaded) m one refl c.loop-m-test.true c.index-loaded-m.is;
      led = subst (AreLed one.summary.lists.requires_) (sym (c.as_slice-targets.ensures.value ∙ ap (λ (l : Loaded). l.targets.items) (sym c.index-loaded-m.is))) analysed.led;
    }

pub loop-m-preserved : goal.loop-m-preserved
loop-m-preserved c =
    let loaded = c.args.loaded.now in
    let m = c.loop-m.m in
    let one = c.index-loaded-m.result in
    let at : slice_get loaded m ≡ Some one = slice_get_read loaded (length loaded) m one refl c.loop-m-test.true c.index-loaded-m.is in (
      below_more loaded m one [] c.loop-m.links.items c.push_links.new.links.items at c.loop-m.invariant.0
          (subst (λ ts. Adds (LinksAmong loaded m ts) c.loop-m.links.items c.push_links.new.links.items) (c.as_slice-targets.ensures.value ∙ ap (λ (l : Loaded). l.targets.items) (sym c.index-loaded-m.is)) (c.in_ok-push_links.ensures {u = tt}).links),
      up_to_next (map (λ (x : Loaded). x.summary.lists) loaded) m _ _ (c.in_ok-push_links.ensures {u = tt}).behind,
    )

pub returns-clause-links : goal.returns-clause-links
returns-clause-links c =
    let last : c.loop-m.m ≡ length c.args.loaded.now = omega (arith, c.loop-m-test.false, c.loop-m.auto.m-end) in
    subst (λ k. Adds (LinksBelow c.args.loaded.now k) [] c.loop-m.links.items) last c.loop-m.invariant.0

pub returns-clause-ascend : goal.returns-clause-ascend
returns-clause-ascend c = c.loop-m.invariant.1.are
