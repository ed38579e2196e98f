use Rattle.std.proofs.Common.{◌≡◌, ◌≢◌, ℕ, ◌<◌, length}
use Rattle.set_pool.specs.Tables.{home_of, none, slot, walk}
use Rattle.set_pool.proofs.table.spot_of.Given as goal

abbrev pub invariant-loop-turn : goal.invariant-loop-turn
invariant-loop-turn l = record {
  within : l.place < length l.table;
  at : l.place ≡ walk (length l.table) (home_of (length l.table) l.value) l._turn;
  passed : (e : ℕ) → e < l._turn → slot l.table (walk (length l.table) (home_of (length l.table) l.value) e) ≢ l.value;
  taken : (e : ℕ) → e < l._turn → slot l.table (walk (length l.table) (home_of (length l.table) l.value) e) ≢ none;
}
