use Rattle.std.proofs.Common.{◌≡◌, ◌+◌, ◌≤◌, ℕ, length, get_or, Some, arith, refl, subst, sym}
use Rattle.js_scopes.specs.declared.function.FunctionInfo.{FunctionInfo}
use Rattle.std.specs.Prelude.{slice_get}
use Rattle.std.specs.Option.{is_some}
use Rattle.std.proofs.lemmas.Option.{slice_get_read}
use Rattle.reach_path.specs.Reached.{path_to}
use Rattle.alarms.specs.Searching.{Adds, HitsOne}
use Rattle.alarms.proofs.SearchLemmas.{Below, all_functions, below_more}
use Rattle.alarms.proofs.search.Owned.push_functions.Goals as goal

pub loop-f-preserved : goal.loop-f-preserved
loop-f-preserved c =
    let P = HitsOne (λ f. is_some (path_to c.args.reach.now f)) c.args.i c.args.selectors.now c.args.self.now in
    let functions = c.args.self.now.functions.now in
    let function = c.index-self-f.result in
    let here : slice_get functions c.loop-f.f ≡ Some function = slice_get_read functions (length functions) c.loop-f.f function refl c.loop-f-test.true c.index-self-f.is in
    below_more P functions c.loop-f.f function c.args.found.now.items c.loop-f.found.items c.push_function.new.found.items here c.loop-f.invariant
    (subst (λ (i : FunctionInfo). Adds (P c.loop-f.f i) c.loop-f.found.items c.push_function.new.found.items) (sym c.index-self-f.is)
    (subst (λ (k : ℕ). Adds (P k (get_or functions c.loop-f.f function)) c.loop-f.found.items c.push_function.new.found.items) c.in_ok-number.ensures c.in_ok-push_function.ensures))

pub returns : goal.returns
returns c =
    let P = HitsOne (λ f. is_some (path_to c.args.reach.now f)) c.args.i c.args.selectors.now c.args.self.now in
    let functions = c.args.self.now.functions.now in
    let last : c.loop-f.f ≡ length functions = omega (arith, c.loop-f-test.false, c.loop-f.auto.f-end) in
    all_functions (λ f. is_some (path_to c.args.reach.now f)) c.args.i c.args.selectors.now c.args.self.now c.args.found.now.items c.loop-f.found.items
    (subst (λ (k : ℕ). Adds (Below P functions k) c.args.found.now.items c.loop-f.found.items) last c.loop-f.invariant)
