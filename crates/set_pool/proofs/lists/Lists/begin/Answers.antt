use Rattle.std.proofs.Common.{◌≡◌, ◌<◌, ◌≤◌, ◌%◌, ◌-◌, ℕ, length, map, sym, ◌∙◌, ap, subst, refl, arith}
use Rattle.std.specs.Vec.{vec_capacity}
use Rattle.std.proofs.lemmas.List.{length-map}
use Rattle.std.proofs.lemmas.Bool.{eq-eqb, eqb-true}
use Rattle.set_pool.specs.Chains.{Lists, end_at, list_in}
use Rattle.set_pool.specs.Sets.{set_at}
use Rattle.set_pool.proofs.ChainLemmas.{begun_chained, begun_lists}
use Rattle.set_pool.proofs.ChainReads.{count_at, full_at}
use Rattle.set_pool.proofs.Members.{same_read}
use Rattle.set_pool.proofs.lists.Lists.begin.Goals as goal

pub overflow_cast-number : goal.overflow_cast-number
overflow_cast-number c =
    let few = c.self.invariant.few in
    let n = c.len-number.ensures in
    let ok = c.self.inside.chunks.ok in
    omega (arith, few, n, ok)

pub push_reserved-requires : goal.push_reserved-requires
push_reserved-requires c =
    let room = c.self.invariant.room in
    let ok = c.self.inside.chunks.ok in
    let spare = c.requires.spare in
    let f = ap (λ (v : Lists). v.spare) c.self.view_is in
    omega (arith, room, ok, spare, f)

pub overflow_add-end : goal.overflow_add-end
overflow_add-end c =
    let chunks = c.self.inside.chunks.items in
    let ends = c.self.inside.ends.items in
    let s = c.args.list in
    let lt : s < length ends = let e = length-map ends (list_in chunks) in let f = ap (λ (v : Lists). length v.lists) c.self.view_is in let g = c.requires.list in omega (arith, e, f, g) in
    let was = c.index-end.ensures ∙ same_read ends s _ _ lt in
    let count = count_at chunks ends _ _ s c.index-end.result.now c.self.invariant lt was in
    let few = c.self.invariant.few in
    let spare = c.requires.spare in
    let f = ap (λ (v : Lists). v.spare) c.self.view_is in
    omega (arith, count, few, spare, f)

pub overflow_sub-self : goal.overflow_sub-self
overflow_sub-self c =
    let spare = c.requires.spare in
    let f = ap (λ (v : Lists). v.spare) c.self.view_is in
    omega (arith, spare, f)

pub invariant_of-self : goal.invariant_of-self
invariant_of-self c =
    let chunks = c.self.inside.chunks.items in
    let ends = c.self.inside.ends.items in
    let s = c.args.list in
    let lt : s < length ends = let e = length-map ends (list_in chunks) in let f = ap (λ (v : Lists). length v.lists) c.self.view_is in let g = c.requires.list in omega (arith, e, f, g) in
    let was = c.index-end.ensures ∙ same_read ends s _ _ lt in
    let short : length (set_at (map (list_in chunks) ends) s) % 15 ≡ 0 = subst (λ (v : Lists). length (set_at v.lists s) % 15 ≡ 0) (sym c.self.view_is) c.requires.full in
    let full = eqb-true c.index-end.result.now.filled 15 (full_at chunks ends _ _ s c.index-end.result.now c.self.invariant was ∙ eq-eqb (length (set_at (map (list_in chunks) ends) s) % 15) 0 short) in
    let number : c.len-number.result ≡ length chunks = let n = c.len-number.ensures in let ok = c.self.inside.chunks.ok in omega (arith, n, ok) in
    let spare = c.requires.spare in
    let f = ap (λ (v : Lists). v.spare) c.self.view_is in
    let wider = c.push_reserved.ensures.capacity in
    rw c.push_reserved.ensures.items
    (begun_chained chunks ends _ _ _ _ s c.args.value _ c.index-end.result.now _ c.self.invariant lt was full refl refl refl number (omega arith) refl (omega (arith, spare, f)) (omega (arith, wider)))

pub returns-clause-lists : goal.returns-clause-lists
returns-clause-lists c =
    let chunks = c.self.inside.chunks.items in
    let ends = c.self.inside.ends.items in
    let s = c.args.list in
    let lt : s < length ends = let e = length-map ends (list_in chunks) in let f = ap (λ (v : Lists). length v.lists) c.self.view_is in let g = c.requires.list in omega (arith, e, f, g) in
    let was = c.index-end.ensures ∙ same_read ends s _ _ lt in
    let short : length (set_at (map (list_in chunks) ends) s) % 15 ≡ 0 = subst (λ (v : Lists). length (set_at v.lists s) % 15 ≡ 0) (sym c.self.view_is) c.requires.full in
    let full = eqb-true c.index-end.result.now.filled 15 (full_at chunks ends _ _ s c.index-end.result.now c.self.invariant was ∙ eq-eqb (length (set_at (map (list_in chunks) ends) s) % 15) 0 short) in
    let number : c.len-number.result ≡ length chunks = let n = c.len-number.ensures in let ok = c.self.inside.chunks.ok in omega (arith, n, ok) in
    let spare = c.requires.spare in
    let f = ap (λ (v : Lists). v.spare) c.self.view_is in
    rw (c.push_reserved.ensures.items, ← c.self.view_is)
    (begun_lists chunks ends c.self.inside.spare (c.self.inside.spare - 1) (vec_capacity c.self.inside.chunks) (vec_capacity c.self.inside.chunks) s c.args.value _ c.index-end.result.now _ c.self.invariant lt was full refl refl refl number (omega arith) refl (omega (arith, spare, f)) (omega arith))
