use Rattle.std.proofs.Common.{◌≡◌, ◌<◌, length, sym, ◌∙◌, ap, arith}
use Rattle.std.proofs.lemmas.List.{get_or_default}
use Rattle.reach_path.specs.declared.lasts.Last.{Last}
use Rattle.reach_path.specs.Lasts.{last_of, no_last}
use Rattle.reach_path.specs.Numbers.{function_at}
use Rattle.reach_path.specs.Reached.{Reached}
use Rattle.reach_path.proofs.RouteLemmas.{way_back-onward, way_back-end}
use Rattle.reach_path.proofs.routes.Reach.way_back.Goals as goal

pub loop-step-preserved : goal.loop-step-preserved
loop-step-preserved c =
    let r = c.args.self.now in
    let at = c.loop-step.at in
    let k = c.loop-step._step in
    let last = c.index-last.result.now in
    let view = c.self.view_is in
    let inside : at < length c.self.inside.lasts.items = omega (arith, c.loop-step.invariant.inside, ap (λ (x : Reached). length x.levels) view, c.self.invariant.same) in
    let last_is : last ≡ last_of r.lasts at
    = c.index-last.ensures ∙ get_or_default c.self.inside.lasts.items at last no_last inside ∙ ap (λ (x : Reached). last_of x.lasts at) view in
    let caller_is : c.function_of.result ≡ function_at r.starts last.caller
    = c.function_of.ensures ∙ ap (λ xs. function_at xs last.caller) (c.as_slice.ensures.value ∙ ap (λ (x : Reached). x.starts) view) in
    let callee_is : c.function_of-in-loop-step.result ≡ function_at r.starts at
    = c.function_of-in-loop-step.ensures ∙ ap (λ xs. function_at xs at) (c.as_slice-in-loop-step.ensures.value ∙ ap (λ (x : Reached). x.starts) view) in
    let below = c.self.invariant.callers at (omega (arith, inside, c.self.invariant.same)) in
    let same_caller : last.caller ≡ (last_of c.self.inside.lasts.items at).caller = ap (λ (x : Last). x.caller) (last_is ∙ ap (λ (x : Reached). last_of x.lasts at) (sym view)) in
    record {
      inside = omega (arith, below, same_caller, ap (λ (x : Reached). length x.levels) view);
      way = rw c.in_ok-push.ensures.items (way_back-onward r c.args.count k at _ c.loop-step.edges.items c.function_of.result c.function_of-in-loop-step.result last (omega (arith, c.loop-step-test.true)) last_is caller_is callee_is c.loop-step.invariant.way);
    }

pub returns : goal.returns
returns c = way_back-end c.args.self.now c.args.count c.loop-step._step c.loop-step.at _ c.loop-step.edges.items c.loop-step-test.false c.loop-step.invariant.way
