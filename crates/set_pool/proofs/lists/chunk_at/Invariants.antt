use Rattle.std.proofs.Common.{◌+◌, ◌-◌, ℕ, List}
use Rattle.set_pool.specs.Chains.{HasFront}
use Rattle.set_pool.proofs.lists.chunk_at.Given as goal

abbrev pub invariant-loop-hop : goal.invariant-loop-hop
invariant-loop-hop l =
    (s : ℕ) (row : List ℕ) → HasFront l.chunks s row l.fn.end.count l.fn.end.chunk (l.place + 1) → HasFront l.chunks s row (l.fn.end.count - l._hop) l.chunk (l.place + 1)
