use Rattle.std.proofs.Common.{◌++◌, ℕ, List, not, ap, sym, subst, ◌∙◌}
use Rattle.std.specs.List.{filter}
use Rattle.std.specs.List.Sorted.{IsPermutation}
use Rattle.std.proofs.lemmas.List.Filters.{dedup_is}
use Rattle.jam_app.proofs.Following.{filter_ends, filter_skips, is_new, next_ascends, next_has, same_dedup}
use Rattle.jam_app.proofs.loading.rounds.not_loaded.Goals as goal

pub loop-path-init : goal.loop-path-init
loop-path-init c = record {
  can = tt;
  finite = tt;
  parts = ap (filter (is_new c.args.loaded.now)) (sym c.into_iter-path-iterator.ensures.into_iter_gives.0) ∙ ap (λ next. next ++ filter (is_new c.args.loaded.now) c.into_iter-path-iterator.result.rest.items) (sym c.new-next.ensures.items);
}

pub loop-path-preserved : goal.loop-path-preserved
loop-path-preserved c = record {
  can = tt;
  finite = tt;
  parts = filter_skips (is_new c.args.loaded.now) c.args.paths.items c.loop-path.next.items c.loop-path.path-iterator.rest.items c.next.new.self.rest.items c.in-Some.path c.loop-path.invariant.parts c.in-Some.ensures.steps.0
      (ap not (sym c.contains_key.ensures ∙ c.if-not-contains_key.false));
}

pub returns-clause-sorted : goal.returns-clause-sorted
returns-clause-sorted c =
    let all = filter_ends (is_new c.args.loaded.now) c.args.paths.items c.loop-path.next.items c.loop-path.path-iterator.rest.items _ c.loop-path.invariant.parts c.loop-path.path-iterator.rest.ok.0 c.in-None.ensures.steps.0 in
    next_ascends c.args.loaded.now c.args.paths.items c.sort.new.self.items c.dedup.new.self.items (subst (λ (ps : List (List ℕ)). IsPermutation ps c.sort.new.self.items) (sym all) c.in_ok-sort.ensures.permutation)
    (dedup_is _ _ _ c.dedup.ensures.filtered ∙ same_dedup c.sort.new.self.items) c.in_ok-sort.ensures.sorted

pub returns-clause-here : goal.returns-clause-here
returns-clause-here c =
    let all = filter_ends (is_new c.args.loaded.now) c.args.paths.items c.loop-path.next.items c.loop-path.path-iterator.rest.items _ c.loop-path.invariant.parts c.loop-path.path-iterator.rest.ok.0 c.in-None.ensures.steps.0 in
    next_has c.args.loaded.now c.args.paths.items c.sort.new.self.items c.dedup.new.self.items (subst (λ (ps : List (List ℕ)). IsPermutation ps c.sort.new.self.items) (sym all) c.in_ok-sort.ensures.permutation)
    (dedup_is _ _ _ c.dedup.ensures.filtered ∙ same_dedup c.sort.new.self.items)
