use Rattle.std.proofs.Common.{◌≡◌, ◌<◌, ◌+◌, ◌-◌, ◌%◌, ℕ, true, length, map, sym, ◌∙◌, ap, subst, arith}
use Rattle.set_pool.specs.Chains.{Lists, chunk, end_at, list_in}
use Rattle.set_pool.specs.Sets.{is_in, set_at}
use Rattle.set_pool.specs.Tables.{none, taken}
use Rattle.set_pool.specs.Windows.{Puts}
use Rattle.set_pool.specs.declared.lists.Chunk.{Chunk}
use Rattle.set_pool.proofs.ChainWalks.{Putting, putting_among, putting_below, putting_done, putting_first, putting_on, putting_probed, putting_room}
use Rattle.set_pool.proofs.Members.{same_read}
use Rattle.set_pool.proofs.WindowLemmas.{puts_length}
use Rattle.set_pool.proofs.lists.Lists.put_all.Goals as goal

pub loop-turn-init : goal.loop-turn-init
loop-turn-init c =
    let chunks = c.self.inside.chunks.items in
    let ends = c.self.inside.ends.items in
    let s = c.args.list in
    let was = c.end_in-end.ensures ∙ ap (λ xs. end_at xs s) c.as_slice.ensures.value in
    let full : length (set_at (map (list_in chunks) ends) s) % 15 ≡ 0 = subst (λ (v : Lists). length (set_at v.lists s) % 15 ≡ 0) (sym c.self.view_is) c.requires.full in
    subst (λ n. Putting chunks s (set_at (map (list_in chunks) ends) s) c.args.index.now c.args.index.now n c.end_in-end.result.chunk) (omega arith)
    (putting_first chunks ends _ _ s c.end_in-end.result c.args.index.now c.self.invariant was full)

pub index-here-requires : goal.index-here-requires
index-here-requires c =
    let left = c.end_in-end.result.count - c.loop-turn._turn in
    let t = c.loop-turn-test.true in
    let below = putting_below _ _ left (left - 1) c.loop-turn.chunk _ _ _ (omega (arith, t)) c.loop-turn.invariant in
    let ok = c.self.inside.chunks.ok in
    omega (arith, below, ok)

pub put_each-requires-clause-list : goal.put_each-requires-clause-list
put_each-requires-clause-list c =
    let e = puts_length _ _ _ _ c.loop-turn.invariant.puts in
    let lt = c.requires.list in
    omega (arith, e, lt)

pub put_each-requires-clause-below : goal.put_each-requires-clause-below
put_each-requires-clause-below c t h =
    let chunks = c.self.inside.chunks.items in
    let ends = c.self.inside.ends.items in
    let s = c.args.list in
    let left = c.end_in-end.result.count - c.loop-turn._turn in
    let test = c.loop-turn-test.true in
    let below = putting_below chunks s left (left - 1) c.loop-turn.chunk _ _ _ (omega (arith, test)) c.loop-turn.invariant in
    let read = c.index-here.ensures ∙ same_read chunks c.loop-turn.chunk _ _ below in
    subst (λ (v : Lists). (x : ℕ) → is_in x (set_at v.lists s) ≡ true → x < none) (sym c.self.view_is) c.requires.below t
    (putting_among chunks s left (left - 1) c.loop-turn.chunk _ _ _ (omega (arith, test)) c.loop-turn.invariant t (ap (λ (x : Chunk). is_in t x.values) (sym read) ∙ h))

pub put_each-requires-clause-probed : goal.put_each-requires-clause-probed
put_each-requires-clause-probed c =
    let left = c.end_in-end.result.count - c.loop-turn._turn in
    let test = c.loop-turn-test.true in
    putting_probed _ _ left (left - 1) c.loop-turn.chunk _ _ _ (omega (arith, test)) c.loop-turn.invariant c.requires.list c.requires.probed

pub put_each-requires-clause-room : goal.put_each-requires-clause-room
put_each-requires-clause-room c =
    let chunks = c.self.inside.chunks.items in
    let ends = c.self.inside.ends.items in
    let s = c.args.list in
    let left = c.end_in-end.result.count - c.loop-turn._turn in
    let test = c.loop-turn-test.true in
    let below = putting_below chunks s left (left - 1) c.loop-turn.chunk _ _ _ (omega (arith, test)) c.loop-turn.invariant in
    let read = c.index-here.ensures ∙ same_read chunks c.loop-turn.chunk _ _ below in
    let room : taken (set_at c.args.index.now.tables s) + length (set_at (map (list_in chunks) ends) s) < length (set_at c.args.index.now.tables s)
    = subst (λ (v : Lists). taken (set_at c.args.index.now.tables s) + length (set_at v.lists s) < length (set_at c.args.index.now.tables s)) (sym c.self.view_is) c.requires.room in
    subst (λ (x : Chunk). taken (set_at c.loop-turn.index.tables s) + length x.values < length (set_at c.loop-turn.index.tables s)) (sym read)
    (putting_room chunks s left (left - 1) c.loop-turn.chunk _ _ _ (omega (arith, test)) c.loop-turn.invariant c.requires.list room)

pub loop-turn-preserved : goal.loop-turn-preserved
loop-turn-preserved c =
    let chunks = c.self.inside.chunks.items in
    let ends = c.self.inside.ends.items in
    let s = c.args.list in
    let row = set_at (map (list_in chunks) ends) s in
    let left = c.end_in-end.result.count - c.loop-turn._turn in
    let test = c.loop-turn-test.true in
    let below = putting_below chunks s left (left - 1) c.loop-turn.chunk _ _ _ (omega (arith, test)) c.loop-turn.invariant in
    let read = c.index-here.ensures ∙ same_read chunks c.loop-turn.chunk _ _ below in
    let puts : Puts s (chunk chunks c.loop-turn.chunk).values c.loop-turn.index c.put_each.new.index = subst (λ (x : Chunk). Puts s x.values c.loop-turn.index c.put_each.new.index) read c.put_each.ensures in
    let next = putting_on chunks s left (left - 1) c.loop-turn.chunk row _ _ (omega (arith, test)) c.loop-turn.invariant c.put_each.new.index c.requires.list puts in
    let less : left - 1 ≡ c.end_in-end.result.count - (c.loop-turn._turn + 1) = omega arith in
    subst (λ (x : Chunk). Putting chunks s row c.args.index.now c.put_each.new.index (c.end_in-end.result.count - (c.loop-turn._turn + 1)) x.before) (sym read)
    (subst (λ n. Putting chunks s row c.args.index.now c.put_each.new.index n (chunk chunks c.loop-turn.chunk).before) less next)

pub returns : goal.returns
returns c =
    let f = c.loop-turn-test.false in
    rw (← c.self.view_is) (putting_done _ _ (c.end_in-end.result.count - c.loop-turn._turn) c.loop-turn.chunk _ _ _ (omega (arith, f)) c.loop-turn.invariant)
