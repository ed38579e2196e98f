use Rattle.std.proofs.Common.{◌≡◌, ◌≤◌, ◌+◌, ◌/◌, ◌++◌, map, reverse}
use Rattle.std.specs.List.{slice_range}
use Rattle.set_pool.specs.Chains.{HasFront, list_in}
use Rattle.set_pool.specs.Sets.{set_at}
use Rattle.set_pool.proofs.lists.Lists.push_values.Given as goal

abbrev pub invariant-loop-place : goal.invariant-loop-place
invariant-loop-place l = record {
  from_on : l.from ≤ l.place;
  put : l.out.items ≡ l.fn.out.items ++ reverse (slice_range (set_at (map (list_in l.self-inside.chunks.items) l.self-inside.ends.items) l.list) l.place l.to);
  front : HasFront l.self-inside.chunks.items l.list (set_at (map (list_in l.self-inside.chunks.items) l.self-inside.ends.items) l.list) ((l.place + 14) / 15) l.chunk l.place;
}
