use Rattle.std.proofs.Common.{◌≡◌, ◌∙◌, [], arith, refl, ap, subst, sym}
use Rattle.std.proofs.lemmas.List.{take_all}
use Rattle.std.specs.Option.{IfSome}
use Rattle.node_resolve.specs.Targets.{target_of}
use Rattle.jam_app.specs.Entries.{module_path}
use Rattle.jam_app.specs.Loading.{AreLed, missing_by, missing_of}
use Rattle.jam_app.specs.Reading.{led_by, led_to}
use Rattle.jam_app.proofs.Ascending.{led_none, led_on}
use Rattle.jam_app.proofs.Causes.{any_files, both_told, counts_on, told}
use Rattle.jam_app.proofs.Targets.{led_more, led_offset}
use Rattle.jam_app.proofs.loading.ends.ends_of.Goals as goal

pub loop-require-init : goal.loop-require-init
loop-require-init g c = record {
  ends = any_files (g.F.Folder.files c.args.folder.now) (λ m. (c.new-targets.ensures.items, c.new-missing.ensures.items));
  lead = subst (AreLed []) (sym c.new-targets.ensures.items) (led_none []);
  same = refl;
  quiet = refl;
}

pub returns-clause-led : goal.returns-clause-led
returns-clause-led g c = subst (λ rs. AreLed rs c.loop-require.targets.items) (take_all c.loop-require.require-index c.args.requires_.now c.loop-require-test.false) c.loop-require.invariant.lead

pub loop-require-preserved : goal.loop-require-preserved
loop-require-preserved g c =
    let inv = c.loop-require.invariant in
    let files = g.F.Folder.files c.args.folder.now in
    let r = c.require-item.result in
    let target = c.in_ok-target.target in
    let step : IfSome files (λ m. target ≡ target_of m c.args.from.now r.spec) = subst (λ fs. IfSome fs (λ m. target ≡ target_of m c.args.from.now r.spec)) inv.same c.in_ok-target.ensures.gives in
    record {
      ends = both_told files inv.ends step (λ m ends is. (
        led_more (led_by m c.args.from.now) c.args.requires_.now c.loop-require.require-index r _ _ c.led_to.result
            c.in_ok-push_led.ensures ends.0 (c.led_to.ensures ∙ ap (λ t. led_to r.offset (module_path t)) is) c.loop-require-test.true c.require-item.is,
        led_more (missing_by m c.args.from.now) c.args.requires_.now c.loop-require.require-index r _ _ c.in_ok-missing_of.field-0
            c.in_ok-push_missing.ensures ends.1 (c.in_ok-missing_of.ensures ∙ ap (missing_of r) is) c.loop-require-test.true c.require-item.is,
      ));
      lead = led_on c.args.requires_.now c.loop-require.require-index r _ _ c.led_to.result c.requires c.loop-require-test.true c.require-item.is
          (subst (λ l. IfSome l (λ x. x.offset ≡ r.offset)) (sym c.led_to.ensures) (led_offset r.offset (module_path target))) c.in_ok-push_led.ensures inv.lead;
      same = c.in_ok-target.ensures.same ∙ inv.same;
      quiet = c.in_ok-target.ensures.counts.done ∙ inv.quiet;
    }

pub returns-in_err-target-clause-counts : goal.returns-in_err-target-clause-counts
returns-in_err-target-clause-counts g c = counts_on _ _ _ c.in_err-target.field-0.0 c.from_residual.result c.from_residual.ensures.1 c.loop-require.invariant.quiet c.in_err-target.ensures.counts
