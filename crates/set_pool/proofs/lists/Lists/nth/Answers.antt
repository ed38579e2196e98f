use Rattle.std.proofs.Common.{◌≡◌, ◌<◌, ◌+◌, ◌/◌, ◌%◌, ℕ, length, get_or, map, sym, ◌∙◌, ap, subst, refl, arith}
use Rattle.set_pool.specs.Chains.{HasFront, Lists, end_at, list_in}
use Rattle.set_pool.specs.Sets.{set_at}
use Rattle.set_pool.specs.declared.lists.Chunk.{Chunk}
use Rattle.set_pool.proofs.ChainWalks.{front_below, front_first, front_here}
use Rattle.set_pool.proofs.Members.{same_read}
use Rattle.set_pool.proofs.lists.Lists.nth.Goals as goal

pub chunk_at-chunk-requires : goal.chunk_at-chunk-requires
chunk_at-chunk-requires c =
    let chunks = c.self.inside.chunks.items in
    let ends = c.self.inside.ends.items in
    let s = c.args.list in
    let was = c.end_in-end.ensures ∙ ap (λ xs. end_at xs s) c.as_slice.ensures.value in
    let row = set_at (map (list_in chunks) ends) s in
    let lt : c.args.place < length row = subst (λ (v : Lists). c.args.place < length (set_at v.lists s)) (sym c.self.view_is) c.requires in
    (s, row, rw c.as_slice-2.ensures.value (front_first chunks ends _ _ s (c.args.place + 1) c.end_in-end.result c.self.invariant was (omega (arith, lt))))

pub index-requires : goal.index-requires
index-requires c =
    let chunks = c.self.inside.chunks.items in
    let ends = c.self.inside.ends.items in
    let s = c.args.list in
    let was = c.end_in-end.ensures ∙ ap (λ xs. end_at xs s) c.as_slice.ensures.value in
    let row = set_at (map (list_in chunks) ends) s in
    let lt : c.args.place < length row = subst (λ (v : Lists). c.args.place < length (set_at v.lists s)) (sym c.self.view_is) c.requires in
    let front = front_first chunks ends _ _ s (c.args.place + 1) c.end_in-end.result c.self.invariant was (omega (arith, lt)) in
    let at : HasFront chunks s row (c.args.place / 15 + 1) c.chunk_at-chunk.result (c.args.place + 1)
    = subst (λ xs. HasFront xs s row (c.args.place / 15 + 1) c.chunk_at-chunk.result (c.args.place + 1)) c.as_slice-2.ensures.value (c.chunk_at-chunk.ensures s row (rw c.as_slice-2.ensures.value front)) in
    let below = front_below chunks s row (c.args.place / 15 + 1) (c.args.place / 15) c.chunk_at-chunk.result (c.args.place + 1) (omega arith) at in
    let ok = c.self.inside.chunks.ok in
    omega (arith, below, ok)

pub returns : goal.returns
returns c =
    let chunks = c.self.inside.chunks.items in
    let ends = c.self.inside.ends.items in
    let s = c.args.list in
    let was = c.end_in-end.ensures ∙ ap (λ xs. end_at xs s) c.as_slice.ensures.value in
    let row = set_at (map (list_in chunks) ends) s in
    let lt : c.args.place < length row = subst (λ (v : Lists). c.args.place < length (set_at v.lists s)) (sym c.self.view_is) c.requires in
    let front = front_first chunks ends _ _ s (c.args.place + 1) c.end_in-end.result c.self.invariant was (omega (arith, lt)) in
    let at : HasFront chunks s row (c.args.place / 15 + 1) c.chunk_at-chunk.result (c.args.place + 1)
    = subst (λ xs. HasFront xs s row (c.args.place / 15 + 1) c.chunk_at-chunk.result (c.args.place + 1)) c.as_slice-2.ensures.value (c.chunk_at-chunk.ensures s row (rw c.as_slice-2.ensures.value front)) in
    let below = front_below chunks s row (c.args.place / 15 + 1) (c.args.place / 15) c.chunk_at-chunk.result (c.args.place + 1) (omega arith) at in
    rw (← c.self.view_is)
    (ap (λ (x : Chunk). get_or x.values (c.args.place % 15) 0) (c.index.ensures ∙ same_read chunks c.chunk_at-chunk.result _ _ below)
    ∙ front_here chunks s row (c.args.place / 15 + 1) (c.args.place / 15) c.chunk_at-chunk.result (c.args.place + 1) (omega arith) at c.args.place (omega arith) refl)
