use Rattle.std.proofs.Common.{◌≡◌, ◌≢◌, ◌<◌, ◌%◌, ℕ, length, map, set, sym, ◌∙◌, ap, subst, refl, arith}
use Rattle.std.proofs.lemmas.List.{length-map}
use Rattle.set_pool.specs.Chains.{Lists, end_at, list_in}
use Rattle.set_pool.specs.Sets.{set_at}
use Rattle.set_pool.specs.declared.lists.Chunk.{Chunk}
use Rattle.set_pool.specs.declared.lists.End.{End}
use Rattle.set_pool.proofs.ChainLemmas.{pushed_chained, pushed_lists}
use Rattle.set_pool.proofs.ChainReads.{room_at}
use Rattle.set_pool.proofs.Members.{same_read}
use Rattle.set_pool.proofs.lists.Lists.push.Goals as goal

pub index_mut-requires : goal.index_mut-requires
index_mut-requires c =
    let chunks = c.self.inside.chunks.items in
    let ends = c.self.inside.ends.items in
    let s = c.args.list in
    let lt : s < length ends = let e = length-map ends (list_in chunks) in let f = ap (λ (v : Lists). length v.lists) c.self.view_is in let g = c.requires.list in omega (arith, e, f, g) in
    let was = c.index-end.ensures ∙ same_read ends s _ _ lt in
    let more = room_at chunks ends _ _ s c.index-end.result.now c.self.invariant was (subst (λ (v : Lists). length (set_at v.lists s) % 15 ≢ 0) (sym c.self.view_is) c.requires.room) in
    let below = more.below in
    let ok = c.self.inside.chunks.ok in
    omega (arith, below, ok)

pub bounds-index_mut-end : goal.bounds-index_mut-end
bounds-index_mut-end c =
    let chunks = c.self.inside.chunks.items in
    let ends = c.self.inside.ends.items in
    let s = c.args.list in
    let lt : s < length ends = let e = length-map ends (list_in chunks) in let f = ap (λ (v : Lists). length v.lists) c.self.view_is in let g = c.requires.list in omega (arith, e, f, g) in
    let was = c.index-end.ensures ∙ same_read ends s _ _ lt in
    let more = room_at chunks ends _ _ s c.index-end.result.now c.self.invariant was (subst (λ (v : Lists). length (set_at v.lists s) % 15 ≢ 0) (sym c.self.view_is) c.requires.room) in
    let less = more.less in
    omega (arith, less)

pub overflow_add-end : goal.overflow_add-end
overflow_add-end c =
    let chunks = c.self.inside.chunks.items in
    let ends = c.self.inside.ends.items in
    let s = c.args.list in
    let lt : s < length ends = let e = length-map ends (list_in chunks) in let f = ap (λ (v : Lists). length v.lists) c.self.view_is in let g = c.requires.list in omega (arith, e, f, g) in
    let was = c.index-end.ensures ∙ same_read ends s _ _ lt in
    let more = room_at chunks ends _ _ s c.index-end.result.now c.self.invariant was (subst (λ (v : Lists). length (set_at v.lists s) % 15 ≢ 0) (sym c.self.view_is) c.requires.room) in
    let less = more.less in
    omega (arith, less)

pub invariant_of-self : goal.invariant_of-self
invariant_of-self c =
    let chunks = c.self.inside.chunks.items in
    let ends = c.self.inside.ends.items in
    let s = c.args.list in
    let lt : s < length ends = let e = length-map ends (list_in chunks) in let f = ap (λ (v : Lists). length v.lists) c.self.view_is in let g = c.requires.list in omega (arith, e, f, g) in
    let was = c.index-end.ensures ∙ same_read ends s _ _ lt in
    let more = room_at chunks ends _ _ s c.index-end.result.now c.self.invariant was (subst (λ (v : Lists). length (set_at v.lists s) % 15 ≢ 0) (sym c.self.view_is) c.requires.room) in
    pushed_chained chunks ends _ _ s c.args.value _ c.index-end.result.now _ c.self.invariant lt was more.some more.less
    (ap (λ (y : Chunk). set y.values c.index-end.result.now.filled c.args.value) (c.index_mut.ensures.value ∙ same_read chunks c.index-end.result.now.chunk _ _ more.below))
    (ap (λ (y : Chunk). y.before) (c.index_mut.ensures.value ∙ same_read chunks c.index-end.result.now.chunk _ _ more.below)) refl refl (omega arith)

pub returns-clause-lists : goal.returns-clause-lists
returns-clause-lists c =
    let chunks = c.self.inside.chunks.items in
    let ends = c.self.inside.ends.items in
    let s = c.args.list in
    let lt : s < length ends = let e = length-map ends (list_in chunks) in let f = ap (λ (v : Lists). length v.lists) c.self.view_is in let g = c.requires.list in omega (arith, e, f, g) in
    let was = c.index-end.ensures ∙ same_read ends s _ _ lt in
    let more = room_at chunks ends _ _ s c.index-end.result.now c.self.invariant was (subst (λ (v : Lists). length (set_at v.lists s) % 15 ≢ 0) (sym c.self.view_is) c.requires.room) in
    rw (← c.self.view_is)
    (pushed_lists chunks ends _ _ s c.args.value _ c.index-end.result.now _ c.self.invariant lt was more.some more.less
    (ap (λ (y : Chunk). set y.values c.index-end.result.now.filled c.args.value) (c.index_mut.ensures.value ∙ same_read chunks c.index-end.result.now.chunk _ _ more.below))
    (ap (λ (y : Chunk). y.before) (c.index_mut.ensures.value ∙ same_read chunks c.index-end.result.now.chunk _ _ more.below)) refl refl (omega arith))
