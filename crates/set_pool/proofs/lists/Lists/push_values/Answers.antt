use Rattle.std.proofs.Common.{◌≡◌, ◌≤◌, ◌<◌, ◌+◌, ◌-◌, ◌/◌, ◌++◌, ◌∷◌, [], ℕ, length, get_or, map, reverse, sym, ◌∙◌, ap, subst, arith, append_assoc}
use Rattle.std.specs.List.{slice_range}
use Rattle.std.proofs.lemmas.List.{append-nil}
use Rattle.set_pool.specs.Chains.{HasFront, Lists, end_at, list_in}
use Rattle.set_pool.specs.Sets.{set_at}
use Rattle.set_pool.proofs.ChainWalks.{front_first, reversed_more, reversed_none}
use Rattle.set_pool.proofs.lists.Lists.push_values.Goals as goal

pub returns-then-from-to : goal.returns-then-from-to
returns-then-from-to c =
    let e : c.args.from ≡ c.args.to = c.if-from-to.true in
    rw e (sym (append-nil c.args.out.now.items) ∙ ap (λ xs. c.args.out.now.items ++ xs) (sym (reversed_none _ c.args.to)))

pub chunk_at-chunk-requires : goal.chunk_at-chunk-requires
chunk_at-chunk-requires c =
    let chunks = c.self.inside.chunks.items in
    let ends = c.self.inside.ends.items in
    let s = c.args.list in
    let was = c.end_in-end.ensures ∙ ap (λ xs. end_at xs s) c.as_slice.ensures.value in
    let row = set_at (map (list_in chunks) ends) s in
    let le : c.args.to ≤ length row = subst (λ (v : Lists). c.args.to ≤ length (set_at v.lists s)) (sym c.self.view_is) c.requires.within in
    let ne = c.if-from-to.false in
    let order = c.requires.order in
    let front = front_first chunks ends _ _ s (c.args.to - 1 + 1) c.end_in-end.result c.self.invariant was (omega (arith, le, ne, order)) in
    (s, row, rw c.as_slice-2.ensures.value front)

pub loop-place-init : goal.loop-place-init
loop-place-init c =
    let chunks = c.self.inside.chunks.items in
    let ends = c.self.inside.ends.items in
    let s = c.args.list in
    let was = c.end_in-end.ensures ∙ ap (λ xs. end_at xs s) c.as_slice.ensures.value in
    let row = set_at (map (list_in chunks) ends) s in
    let le : c.args.to ≤ length row = subst (λ (v : Lists). c.args.to ≤ length (set_at v.lists s)) (sym c.self.view_is) c.requires.within in
    let ne = c.if-from-to.false in
    let order = c.requires.order in
    let front = front_first chunks ends _ _ s (c.args.to - 1 + 1) c.end_in-end.result c.self.invariant was (omega (arith, le, ne, order)) in
    let at : HasFront chunks s row ((c.args.to - 1) / 15 + 1) c.chunk_at-chunk.result (c.args.to - 1 + 1)
    = subst (λ xs. HasFront xs s row ((c.args.to - 1) / 15 + 1) c.chunk_at-chunk.result (c.args.to - 1 + 1)) c.as_slice-2.ensures.value (c.chunk_at-chunk.ensures s row (rw c.as_slice-2.ensures.value front)) in
    let all : c.args.to - 1 + 1 ≡ c.args.to = omega (arith, ne, order) in
    let last : (c.args.to - 1) / 15 + 1 ≡ (c.args.to + 14) / 15 = omega (arith, ne, order) in
    record {
      from_on = order;
      put = sym (append-nil c.args.out.now.items) ∙ ap (λ xs. c.args.out.now.items ++ xs) (sym (reversed_none row c.args.to));
      front = subst (λ n. HasFront chunks s row ((c.args.to + 14) / 15) c.chunk_at-chunk.result n) all (subst (λ n. HasFront chunks s row n c.chunk_at-chunk.result (c.args.to - 1 + 1)) last at);
    }

pub push_value-requires : goal.push_value-requires
push_value-requires c =
    let chunks = c.self.inside.chunks.items in
    let s = c.args.list in
    let row = set_at (map (list_in chunks) c.self.inside.ends.items) s in
    let p = c.loop-place.place in
    let lt = c.loop-place-test.true in
    let one : p ≡ p - 1 + 1 = omega (arith, lt) in
    let n : (p + 14) / 15 ≡ (p - 1) / 15 + 1 = omega (arith, lt) in (
      s,
      row,
      rw c.as_slice-in-loop-place.ensures.value
          (subst (λ k. HasFront chunks s row ((p - 1) / 15 + 1) c.loop-place.chunk k) one (subst (λ k. HasFront chunks s row k c.loop-place.chunk p) n c.loop-place.invariant.front)),
    )

pub loop-place-preserved : goal.loop-place-preserved
loop-place-preserved c =
    let chunks = c.self.inside.chunks.items in
    let s = c.args.list in
    let row = set_at (map (list_in chunks) c.self.inside.ends.items) s in
    let p = c.loop-place.place in
    let lt = c.loop-place-test.true in
    let one : p ≡ p - 1 + 1 = omega (arith, lt) in
    let n : (p + 14) / 15 ≡ (p - 1) / 15 + 1 = omega (arith, lt) in
    let le : c.args.to ≤ length row = subst (λ (v : Lists). c.args.to ≤ length (set_at v.lists s)) (sym c.self.view_is) c.requires.within in
    let far = c.loop-place.auto.place in
    let w : HasFront c.as_slice-in-loop-place.result.now s row ((p - 1) / 15 + 1) c.loop-place.chunk (p - 1 + 1)
    = rw c.as_slice-in-loop-place.ensures.value
    (subst (λ k. HasFront chunks s row ((p - 1) / 15 + 1) c.loop-place.chunk k) one (subst (λ k. HasFront chunks s row k c.loop-place.chunk p) n c.loop-place.invariant.front)) in
    let more = reversed_more row (p - 1) p c.args.to (omega (arith, lt)) (omega (arith, lt, far)) le in
    record {
      from_on = omega (arith, lt);
      put =
          c.in_ok-chunk.ensures.value s row w
          ∙ ap (λ xs. xs ++ get_or row (p - 1) 0 ∷ []) c.loop-place.invariant.put
          ∙ append_assoc c.args.out.now.items (reverse (slice_range row p c.args.to)) (get_or row (p - 1) 0 ∷ [])
          ∙ ap (λ xs. c.args.out.now.items ++ xs) (sym more);
      front = subst (λ xs. HasFront xs s row ((p - 1 + 14) / 15) c.in_ok-chunk.chunk (p - 1)) c.as_slice-in-loop-place.ensures.value (c.in_ok-chunk.ensures.before s row w);
    }

pub returns : goal.returns
returns c =
    let row = set_at (map (list_in c.self.inside.chunks.items) c.self.inside.ends.items) c.args.list in
    let done = c.loop-place-test.false in
    let from_on = c.loop-place.invariant.from_on in
    let e : c.loop-place.place ≡ c.args.from = omega (arith, done, from_on) in
    rw (← c.self.view_is) (c.loop-place.invariant.put ∙ ap (λ k. c.args.out.now.items ++ reverse (slice_range row k c.args.to)) e)
