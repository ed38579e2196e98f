use Rattle.std.proofs.Common.{◌≡◌, ◌∙◌, ◌+◌, ◌≤◌, ℕ, Bool, List, [], length, get_or, Some, arith, ap, refl, rules, subst, sym}
use Rattle.std.specs.Cmp.Rules.{comparing}
use Rattle.std.specs.Prelude.{slice_get}
use Rattle.std.specs.Option.{is_some}
use Rattle.std.proofs.lemmas.List.Filters.{dedup_is}
use Rattle.std.proofs.lemmas.Option.{slice_get_read}
use Rattle.composer.specs.declared.application.Part.{Part}
use Rattle.advisory_reader.specs.declared.advisory.Advisory.{Advisory}
use Rattle.alarms.specs.declared.found.Found.{Found}
use Rattle.jam_base.specs.declared.edge.FunctionRef.{FunctionRef}
use Rattle.reach_path.specs.Reached.{path_to}
use Rattle.alarms.specs.Alarms.{IsAlarm}
use Rattle.alarms.specs.Searching.{Adds, OfModule}
use Rattle.alarms.proofs.SearchLemmas.{Below, all_modules, below_more}
use Rattle.alarms.proofs.SortLemmas.{alarm_list, same_dedup}
use Rattle.alarms.proofs.search.alarms.Goals as goal

pub loop-m-preserved : goal.loop-m-preserved
loop-m-preserved c =
    let reached : FunctionRef → Bool = λ f. is_some (path_to c.args.reach.now f) in
    let parts = c.args.parts.now in
    let P : ℕ → Part → Found → Type 0 = λ m part. OfModule c.args.lock.now.entries c.args.advisories.now parts reached m in
    let part = c.index-parts-m.result in
    let here : slice_get parts c.loop-m.m ≡ Some part = slice_get_read parts (length parts) c.loop-m.m part refl c.loop-m-test.true c.index-parts-m.is in
    let there : slice_get parts c.in_ok-number.field-0 ≡ Some part = ap (slice_get parts) c.in_ok-number.ensures ∙ here in
    let step : Adds (OfModule c.args.lock.now.entries c.args.advisories.now parts reached c.in_ok-number.field-0) c.loop-m.found.items c.push_module.new.found.items = subst (λ (list : List Advisory). Adds (OfModule c.args.lock.now.entries list parts reached c.in_ok-number.field-0) c.loop-m.found.items c.push_module.new.found.items) c.in_ok-by_package.ensures (c.in_ok-push_module.ensures {u = tt} parts there) in
    below_more P parts c.loop-m.m part [] c.loop-m.found.items c.push_module.new.found.items here c.loop-m.invariant
    (subst (λ (k : ℕ). Adds (P k part) c.loop-m.found.items c.push_module.new.found.items) c.in_ok-number.ensures step)

pub returns : goal.returns
returns c =
    let reached : FunctionRef → Bool = λ f. is_some (path_to c.args.reach.now f) in
    let parts = c.args.parts.now in
    let P : ℕ → Part → Found → Type 0 = λ m part. OfModule c.args.lock.now.entries c.args.advisories.now parts reached m in
    let last : c.loop-m.m ≡ length parts = omega (arith, c.loop-m-test.false, c.loop-m.auto.m-end) in
    let all : Adds (IsAlarm c.args.lock.now.entries c.args.advisories.now parts reached) [] c.loop-m.found.items = all_modules c.args.lock.now.entries c.args.advisories.now parts reached c.loop-m.found.items
    (subst (λ (k : ℕ). Adds (Below P parts k) [] c.loop-m.found.items) last c.loop-m.invariant) in
    alarm_list c.args.lock.now.entries c.args.advisories.now parts reached c.loop-m.found.items c.sort.new.self.items c.dedup.new.self.items c.in_ok-sort.ensures.permutation c.in_ok-sort.ensures.sorted
    (dedup_is _ _ _ c.dedup.ensures.filtered ∙ same_dedup _ c.sort.new.self.items (λ x y. search (comparing, rules) depth 12)) all
