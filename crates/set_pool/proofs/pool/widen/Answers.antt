use Rattle.std.proofs.Common.{◌≡◌, ◌<◌, ◌≤◌, ◌+◌, ◌*◌, ◌/◌, ◌%◌, [], length, replicate, sym, ◌∙◌, ap, subst, arith, get_or-set_same, length-set}
use Rattle.std.proofs.lemmas.List.{length-replicate}
use Rattle.set_pool.specs.Pools.{wider}
use Rattle.set_pool.specs.Sets.{chunks_for, set_at}
use Rattle.set_pool.specs.Tables.{IsProbed, none, taken}
use Rattle.set_pool.proofs.PoolLemmas.{first_chunk, large_table, wide_enough, widened_already, widened_new}
use Rattle.set_pool.proofs.TableLemmas.{fresh_table}
use Rattle.set_pool.proofs.pool.widen.Goals as goal

pub returns-then-chunks-eq0-clause-widened : goal.returns-then-chunks-eq0-clause-widened
returns-then-chunks-eq0-clause-widened c =
    let s = c.args.set in
    let values = set_at c.args.lists.now.lists s in
    let long = c.len.ensures.length in
    let zero_is = c.if-chunks-eq0.true in
    let full = c.requires.full in
    widened_already s values c.args.index.now (first_chunk (chunks_for (length values)) values (set_at c.args.index.now.tables s) (omega (arith, long, zero_is, full)) c.requires.indexed)

pub returns-then-slots-chunks-clause-widened : goal.returns-then-slots-chunks-clause-widened
returns-then-slots-chunks-clause-widened c =
    let s = c.args.set in
    let values = set_at c.args.lists.now.lists s in
    let long = c.len.ensures.length in
    let large = c.if-slots-chunks.true in
    let full = c.requires.full in
    let slots = ap length c.table-slots.ensures in
    widened_already s values c.args.index.now (large_table (chunks_for (length values)) values (set_at c.args.index.now.tables s) (omega (arith, long, large, full, slots)) c.requires.indexed)

pub wider-requires : goal.wider-requires
wider-requires c =
    let less = c.if-slots-chunks.false in
    let few = c.len.ensures.few in
    omega (arith, less, few)

pub renew-requires-clause-room : goal.renew-requires-clause-room
renew-requires-clause-room c =
    let long = c.len.ensures.length in
    let less = c.if-slots-chunks.false in
    let full = c.requires.full in
    let slots = ap length c.table-slots.ensures in
    let room = c.requires.room (omega (arith, long, less, full, slots)) in
    let size = c.wider.ensures ∙ ap wider slots in
    omega (arith, room, size)

pub put_all-requires-clause-list : goal.put_all-requires-clause-list
put_all-requires-clause-list c = rw (c.renew.ensures.tables, length-set) c.requires.set

pub put_all-requires-clause-probed : goal.put_all-requires-clause-probed
put_all-requires-clause-probed c =
    let at = ap (λ ts. set_at ts c.args.set) c.renew.ensures.tables ∙ get_or-set_same c.args.index.now.tables c.args.set (replicate c.wider.result none) [] c.requires.set in
    subst IsProbed (sym at) (fresh_table c.wider.result).probed

pub put_all-requires-clause-room : goal.put_all-requires-clause-room
put_all-requires-clause-room c =
    let s = c.args.set in
    let values = set_at c.args.lists.now.lists s in
    let at = ap (λ ts. set_at ts c.args.set) c.renew.ensures.tables ∙ get_or-set_same c.args.index.now.tables c.args.set (replicate c.wider.result none) [] c.requires.set in
    let long = c.len.ensures.length in
    let some = c.if-chunks-eq0.false in
    let less = c.if-slots-chunks.false in
    let full = c.requires.full in
    let slots = ap length c.table-slots.ensures in
    let size = c.wider.ensures ∙ ap wider slots in
    let wide = (wide_enough (chunks_for (length values)) values (set_at c.args.index.now.tables s) (omega (arith, long, some, full)) (omega (arith, long, less, full, slots)) c.requires.indexed).0 in
    let few = (fresh_table c.wider.result).few in
    let all = length-replicate c.wider.result none in
    subst (λ xs. taken xs + length values < length xs) (sym at) (omega (arith, few, all, wide, size, full))

pub returns-clause-widened : goal.returns-clause-widened
returns-clause-widened c =
    let s = c.args.set in
    let values = set_at c.args.lists.now.lists s in
    let long = c.len.ensures.length in
    let some = c.if-chunks-eq0.false in
    let less = c.if-slots-chunks.false in
    let full = c.requires.full in
    let slots = ap length c.table-slots.ensures in
    let size = c.wider.ensures ∙ ap wider slots in
    widened_new s c.wider.result values c.args.index.now c.renew.new.self c.put_all.new.index c.requires.set (omega (arith, long, some, full)) (omega (arith, long, less, full, slots)) c.requires.indexed size c.renew.ensures.tables c.renew.ensures.used c.renew.ensures.kept c.put_all.ensures
