use Rattle.std.proofs.Common.{◌-◌, map}
use Rattle.set_pool.specs.Chains.{list_in}
use Rattle.set_pool.specs.Sets.{set_at}
use Rattle.set_pool.proofs.ChainWalks.{Putting}
use Rattle.set_pool.proofs.lists.Lists.put_all.Given as goal

abbrev pub invariant-loop-turn : goal.invariant-loop-turn
invariant-loop-turn l =
    Putting l.self-inside.chunks.items l.list (set_at (map (list_in l.self-inside.chunks.items) l.self-inside.ends.items) l.list) l.fn.index l.index (l._turn-end - l._turn) l.chunk
