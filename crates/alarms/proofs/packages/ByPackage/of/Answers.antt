use Rattle.std.proofs.Common.{◌≡◌, ◌++◌, ℕ, List, length, arith, ap, sym, ◌∙◌}
use Rattle.advisory_reader.specs.declared.advisory.Advisory.{Advisory}
use Rattle.alarms.specs.Packages.{place_if, places_from, places_in}
use Rattle.alarms.proofs.PackageLemmas.{kept_all, kept_more, kept_none}
use Rattle.alarms.proofs.packages.ByPackage.of.Goals as goal

pub loop-i-init : goal.loop-i-init
loop-i-init c name = ap (λ (kept : List ℕ). kept ++ places_from 0 name c.args.advisories.now) (kept_none c.new-places.result name c.new-places.ensures.empty)

pub loop-i-preserved : goal.loop-i-preserved
loop-i-preserved c name =
    let kept = places_in c.loop-i.places name in
    let package_ : c.as_str-package.result.now ≡ c.index-advisories-i.result.package = c.as_str-package.ensures ∙ ap (λ (a : Advisory). a.package) (sym c.index-advisories-i.is) in
    let step : places_in c.push_place.new.places name ≡ kept ++ place_if name c.index-advisories-i.result.package c.loop-i.i
    = c.in_ok-push_place.ensures name ∙ (λ k. kept ++ place_if name (package_ k) (c.in_ok-number.ensures k)) in
    kept_more c.args.advisories.now c.index-advisories-i.result c.loop-i.i kept (places_in c.push_place.new.places name) name c.loop-i-test.true c.index-advisories-i.is (c.loop-i.invariant name) step

pub invariant_of-result : goal.invariant_of-result
invariant_of-result c name =
    let last : c.loop-i.i ≡ length c.args.advisories.now = omega (arith, c.loop-i-test.false, c.loop-i.auto.i-end) in
    kept_all c.args.advisories.now c.loop-i.i (places_in c.loop-i.places name) name last (c.loop-i.invariant name)
