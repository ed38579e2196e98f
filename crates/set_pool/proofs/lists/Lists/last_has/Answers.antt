use Rattle.std.proofs.Common.{◌≡◌, ◌<◌, ◌≤◌, ◌+◌, ◌*◌, ℕ, length, map, take, sym, ◌∙◌, ap, subst, arith}
use Rattle.set_pool.specs.Chains.{IsChain, Lists, chunk, end_at, list_in, values_of}
use Rattle.set_pool.specs.Sets.{is_in, set_at}
use Rattle.set_pool.specs.declared.lists.Chunk.{Chunk}
use Rattle.set_pool.proofs.ChainLemmas.{top_of}
use Rattle.set_pool.proofs.ChainReads.{chain_at, length_at, list_at, one_chunk}
use Rattle.set_pool.proofs.Members.{same_read}
use Rattle.set_pool.proofs.lists.Lists.last_has.Goals as goal

pub returns-then-end-eq0 : goal.returns-then-end-eq0
returns-then-end-eq0 c short =
    let chunks = c.self.inside.chunks.items in
    let ends = c.self.inside.ends.items in
    let s = c.args.list in
    let was = c.end_in-end.ensures ∙ ap (λ xs. end_at xs s) c.as_slice.ensures.value in
    rw (← c.self.view_is)
    (sym (ap (is_in c.args.value) (list_at chunks ends s ∙ ap (list_in chunks) (sym was) ∙ ap (λ n. values_of chunks n c.end_in-end.result.chunk c.end_in-end.result.filled) c.if-end-eq0.true)))

pub index-requires : goal.index-requires
index-requires c =
    let chunks = c.self.inside.chunks.items in
    let ends = c.self.inside.ends.items in
    let s = c.args.list in
    let e = c.end_in-end.result in
    let was = c.end_in-end.ensures ∙ ap (λ xs. end_at xs s) c.as_slice.ensures.value in
    let chain : IsChain c.self.invariant.owner chunks s e = rw was (chain_at chunks ends _ _ c.self.invariant s) in
    let some : 0 < e.count = let f = c.if-end-eq0.false in omega (arith, f) in
    let below = (top_of c.self.invariant.owner chunks s e.count e.chunk (length chunks) some chain.owned).below in
    let ok = c.self.inside.chunks.ok in
    omega (arith, below, ok)

pub split_at-requires : goal.split_at-requires
split_at-requires c =
    let chunks = c.self.inside.chunks.items in
    let ends = c.self.inside.ends.items in
    let s = c.args.list in
    let e = c.end_in-end.result in
    let was = c.end_in-end.ensures ∙ ap (λ xs. end_at xs s) c.as_slice.ensures.value in
    let chain : IsChain c.self.invariant.owner chunks s e = rw was (chain_at chunks ends _ _ c.self.invariant s) in
    let some : 0 < e.count = let f = c.if-end-eq0.false in omega (arith, f) in
    let top = top_of c.self.invariant.owner chunks s e.count e.chunk (length chunks) some chain.owned in
    let read = c.index.ensures ∙ same_read chunks e.chunk _ _ top.below in
    let long : length c.index.result.now.values ≡ 15 = ap (λ (x : Chunk). length x.values) read ∙ top.long in
    let few = chain.few in
    omega (arith, long, few)

pub returns : goal.returns
returns c short =
    let chunks = c.self.inside.chunks.items in
    let ends = c.self.inside.ends.items in
    let s = c.args.list in
    let e = c.end_in-end.result in
    let was = c.end_in-end.ensures ∙ ap (λ xs. end_at xs s) c.as_slice.ensures.value in
    let chain : IsChain c.self.invariant.owner chunks s e = rw was (chain_at chunks ends _ _ c.self.invariant s) in
    let some : 0 < e.count = let f = c.if-end-eq0.false in omega (arith, f) in
    let below = (top_of c.self.invariant.owner chunks s e.count e.chunk (length chunks) some chain.owned).below in
    let read = c.index.ensures ∙ same_read chunks e.chunk _ _ below in
    let is : set_at (map (list_in chunks) ends) s ≡ values_of chunks e.count e.chunk e.filled = list_at chunks ends s ∙ ap (list_in chunks) (sym was) in
    let long : length (values_of chunks e.count e.chunk e.filled) + 15 ≡ 15 * e.count + e.filled = ap (λ xs. length xs + 15) (sym is) ∙ length_at chunks ends _ _ s e c.self.invariant was in
    let few : length (values_of chunks e.count e.chunk e.filled) ≤ 15 = subst (λ xs. length xs ≤ 15) is (subst (λ (v : Lists). length (set_at v.lists s) ≤ 15) (sym c.self.view_is) short) in
    let one : values_of chunks e.count e.chunk e.filled ≡ take e.filled (chunk chunks e.chunk).values = one_chunk chunks s e.count e.chunk e.filled chain.some long few some in
    rw (← c.self.view_is)
    (c.contains.ensures.value ∙ ap (is_in c.args.value) (c.split_at.ensures.front ∙ ap (λ (x : Chunk). take e.filled x.values) read ∙ sym one ∙ sym is))
