-- A pool after one value came to one of its sets.
use Rattle.std.proofs.Common.{◌≡◌, ◌≢◌, ℕ, ◌+◌, ◌*◌, ◌/◌, ◌%◌, ◌<◌, ◌≤◌, ◌⊎◌, inl, inr, false, List, [], ◌∷◌, ◌++◌, length, set, refl, sym, ◌∙◌, ap, subst, arith, get_or-set_same, length-set}
use Rattle.std.proofs.lemmas.Bool.{cases_lt}
use Rattle.std.proofs.lemmas.List.{set-get_or}
use Rattle.std.proofs.lemmas.List.Sums.{sum_by-set}
use Rattle.set_pool.proofs.PoolLemmas.{chunks_with, indexed_put, indexed_skip, pool_with}
use Rattle.set_pool.proofs.WindowLemmas.{set_twice}
use Rattle.set_pool.specs.Chains.{Lists}
use Rattle.set_pool.specs.Pools.{IsIndexed, IsPool, IsWidened, slots_of}
use Rattle.set_pool.specs.Pools.IsIndexed.{few, many}
use Rattle.set_pool.specs.Sets.{chunks_for, chunks_of, is_in, set_at, with_value}
use Rattle.set_pool.specs.Tables.{IsProbed, none, taken}
use Rattle.set_pool.specs.Windows.{Puts, Tables}

-- the table of a set has its values still, after one more came to both
pub record IsNoted (chunks s : ℕ) (values : List ℕ) (old new : Tables) : Type 0 where
  pub table : List ℕ
  pub tables : new.tables ≡ set old.tables s table
  pub same_length : length table ≡ length (set_at old.tables s)
  pub indexed : IsIndexed chunks values table
  pub used : new.used ≡ old.used
  pub capacity : new.capacity ≡ old.capacity

pub noted : (chunks s t : ℕ) (values : List ℕ) (old new : Tables) → 0 < chunks → IsIndexed chunks values (set_at old.tables s) → (length (set_at old.tables s) ≡ 0 → new ≡ old)
    → (0 < length (set_at old.tables s) → Puts s (t ∷ []) old new) → IsNoted chunks s (values ++ t ∷ []) old new
noted chunks s t values old new some indexed skips puts = elim (cases_lt 0 (length (set_at old.tables s))) [
  | inl more ↦
      let p = puts more in
      record {
        table = p.table;
        tables = p.tables;
        same_length = p.takes.same_length;
        indexed = indexed_put chunks t values (set_at old.tables s) p.table indexed more p.takes;
        used = p.same_used;
        capacity = p.same_capacity;
      }
  | inr past ↦
      let zero_is : length (set_at old.tables s) ≡ 0 = omega (arith, past) in
      let same = skips zero_is in
      record {
        table = set_at old.tables s;
        tables = ap (λ (x : Tables). x.tables) same ∙ sym (set-get_or old.tables s []);
        same_length = refl;
        indexed = indexed_skip chunks t values (set_at old.tables s) indexed zero_is some;
        used = ap (λ (x : Tables). x.used) same;
        capacity = ap (λ (x : Tables). x.capacity) same;
      }
]

-- the last chunk of a set took a value
pub pool_added : (lists after : Lists) (index later : Tables) (s t : ℕ) → IsPool lists index → s < length lists.lists → t < none → is_in t (set_at lists.lists s) ≡ false → length (set_at lists.lists s) % 15 ≢ 0
    → after.lists ≡ with_value lists.lists s t → after.spare ≡ lists.spare → IsNoted (chunks_for (length (set_at lists.lists s))) s (set_at lists.lists s ++ t ∷ []) index later → IsPool after later
pool_added lists after index later s t is lt small absent room lists_are spare_is now =
    let same : chunks_for (length (set_at lists.lists s)) ≡ chunks_for (length (set_at lists.lists s) + 1) = omega (arith, room) in
    let below : s < length index.tables = let e = is.same_length in omega (arith, lt, e) in
    let slots : slots_of (set index.tables s now.table) + length (set_at index.tables s) ≡ slots_of index.tables + length now.table = sum_by-set (λ (xs : List ℕ). length xs) index.tables s now.table [] below in
    let slots_are = ap slots_of now.tables in
    let long = now.same_length in
    let used = is.used in
    let used_is = now.used in
    let more = chunks_with lists.lists s t lt in
    let chunks_are = ap chunks_of lists_are in
    let old_room = is.room in
    let capacity = now.capacity in
    pool_with lists after index later s t now.table is lt small absent lists_are now.tables (subst (λ n. IsIndexed n (set_at lists.lists s ++ t ∷ []) now.table) same now.indexed)
    (omega (arith, slots, slots_are, long, used, used_is)) (omega (arith, more, chunks_are, old_room, capacity, same, spare_is))

-- a chunk began for a set
pub pool_begun : (lists after : Lists) (index between later : Tables) (s t : ℕ) → IsPool lists index → s < length lists.lists → t < none → is_in t (set_at lists.lists s) ≡ false → length (set_at lists.lists s) % 15 ≡ 0
    → after.lists ≡ with_value lists.lists s t → after.spare + 1 ≡ lists.spare → (w : IsWidened s (set_at lists.lists s) index between) → IsNoted (chunks_for (length (set_at lists.lists s)) + 1) s (set_at lists.lists s ++ t ∷ []) between later → IsPool after later
pool_begun lists after index between later s t is lt small absent full lists_are spare_is w now =
    let same : chunks_for (length (set_at lists.lists s)) + 1 ≡ chunks_for (length (set_at lists.lists s) + 1) = omega (arith, full) in
    let below : s < length index.tables = let e = is.same_length in omega (arith, lt, e) in
    let between_below : s < length between.tables = let e = ap length w.tables in let f = length-set index.tables s w.table in omega (arith, below, e, f) in
    let slots : slots_of (set between.tables s now.table) + length (set_at between.tables s) ≡ slots_of between.tables + length now.table = sum_by-set (λ (xs : List ℕ). length xs) between.tables s now.table [] between_below in
    let slots_are = ap slots_of now.tables in
    let long = now.same_length in
    let used = is.used in
    let widened = w.used in
    let used_is = now.used in
    let more = chunks_with lists.lists s t lt in
    let chunks_are = ap chunks_of lists_are in
    let old_room = is.room in
    let capacity = now.capacity in
    let kept = w.kept in
    pool_with lists after index later s t now.table is lt small absent lists_are
    (now.tables ∙ ap (λ ts. set ts s now.table) w.tables ∙ set_twice index.tables s w.table now.table)
    (subst (λ n. IsIndexed n (set_at lists.lists s ++ t ∷ []) now.table) same now.indexed)
    (omega (arith, slots, slots_are, long, used, used_is, widened)) (omega (arith, more, chunks_are, old_room, capacity, kept, same, spare_is))

-- what the widened table of a set is
pub widened_table : (s : ℕ) (values : List ℕ) (index between : Tables) → s < length index.tables → (w : IsWidened s values index between) → set_at between.tables s ≡ w.table
widened_table s values index between lt w = ap (λ ts. set_at ts s) w.tables ∙ get_or-set_same index.tables s w.table [] lt

-- a table of so many chunks that is looked through
pub table_probed : (chunks : ℕ) (values table : List ℕ) → IsIndexed chunks values table → IsProbed table
table_probed chunks values table (few low is) p lt = absurd (let e = ap length is in omega (arith, e, lt))
table_probed chunks values table (many is low high) p lt = is.probed p lt

pub table_room : (chunks : ℕ) (values table : List ℕ) → IsIndexed chunks values table → length values ≤ 15 * chunks → 0 < length table → taken table < length table
table_room chunks values table (few low is) fits some = absurd (let e = ap length is in omega (arith, e, some))
table_room chunks values table (many is low high) fits some = let f = is.few in omega (arith, f, low, fits, some)

pub widened_length : (s : ℕ) (values : List ℕ) (index between : Tables) → IsWidened s values index between → length between.tables ≡ length index.tables
widened_length s values index between w = ap length w.tables ∙ length-set index.tables s w.table

-- memory for the tables of so many chunks
pub room_more : (lists after : Lists) (index later : Tables) → IsPool lists index → after.lists ≡ lists.lists → after.spare ≡ lists.spare → index.capacity ≤ later.capacity → 80 * (chunks_of after.lists + after.spare) ≤ later.capacity
room_more lists after index later is lists_are spare_is kept =
    let room = is.room in
    let chunks = ap chunks_of lists_are in
    omega (arith, room, chunks, spare_is, kept)
