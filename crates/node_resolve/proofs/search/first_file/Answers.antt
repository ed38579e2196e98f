use Rattle.std.proofs.Common.{◌<◌, length, arith, sym, ◌∙◌}
use Rattle.jam_base.proofs.Joined.{next_part}
use Rattle.node_resolve.proofs.Searching.{found_here, not_here}
use Rattle.node_resolve.proofs.search.first_file.Goals as goal

pub returns-then-is_some-clause-found : goal.returns-then-is_some-clause-found
returns-then-is_some-clause-found g c =
    let lt : c.loop-end.end-index < length c.args.ends.now = omega arith in
    found_here _ _ c.args.path.now _ _ _ _ c.in_ok-found.found (sym c.is_some.ensures ∙ c.if-is_some.true) c.loop-end.invariant.same
    (next_part c.args.ends.now c.loop-end.end-index _ lt) c.in_ok-found.ensures.found c.loop-end.invariant.left

pub loop-end-preserved : goal.loop-end-preserved
loop-end-preserved g c =
    let lt : c.loop-end.end-index < length c.args.ends.now = omega arith in
    record {
      same = c.in_ok-found.ensures.same ∙ c.loop-end.invariant.same;
      kept = c.in_ok-found.ensures.cause.kept ∙ c.loop-end.invariant.kept;
      left = not_here _ _ c.args.path.now _ _ _ _ c.in_ok-found.found (sym c.is_some.ensures ∙ c.if-is_some.false) c.loop-end.invariant.same
          (next_part c.args.ends.now c.loop-end.end-index _ lt) c.in_ok-found.ensures.found c.loop-end.invariant.left;
    }
