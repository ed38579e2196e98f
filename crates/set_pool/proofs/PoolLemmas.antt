-- A pool before and after a value is added.
use Rattle.std.proofs.Common.{◌≡◌, ◌≢◌, ℕ, zero, suc, ◌+◌, ◌*◌, ◌/◌, ◌%◌, ◌<◌, ◌≤◌, ◌⊎◌, inl, inr, Bool, true, false, ◌||◌, cond, List, [], ◌∷◌, ◌++◌, length, get_or, set, replicate, refl, sym, ◌∙◌, ap, arith, get_or-set_same, get_or-set_other, length-append, length-set}
use Rattle.std.specs.Prelude.{nat_eq}
use Rattle.std.specs.List.{AllByRecursion, IsDistinct, list_any, sum_by}
use Rattle.std.proofs.lemmas.Bool.{cases_eq, eq-eqb, eqb-true, ne_eqb, or_cases}
use Rattle.std.proofs.lemmas.List.{length-replicate, set-get_or}
use Rattle.std.proofs.lemmas.List.Folds.{sum_by-replicate}
use Rattle.std.proofs.lemmas.List.Sums.{sum_by-cons, sum_by-set}
use Rattle.std.proofs.lemmas.Map.Steps.{length-le_from_distinct_below}
use Rattle.set_pool.proofs.Members.{apart, is_in-append, told}
use Rattle.set_pool.proofs.TableLemmas.{fresh_table, table_with}
use Rattle.set_pool.proofs.WindowLemmas.{set_twice}
use Rattle.set_pool.specs.Chains.{Lists}
use Rattle.set_pool.specs.Pools.{IsIndexed, IsPool, IsWidened, slots_of, wider}
use Rattle.set_pool.specs.Pools.IsIndexed.{few, many}
use Rattle.set_pool.specs.Sets.{chunks_for, chunks_of, is_in, set_at, with_value}
use Rattle.set_pool.specs.Tables.{IsProbed, IsTableOf, Takes, none, taken}
use Rattle.set_pool.specs.Windows.{Puts, Tables}

-- a value more that is new leaves no value twice
pub distinct_more : (xs : List ℕ) (t : ℕ) → IsDistinct nat_eq xs → is_in t xs ≡ false → IsDistinct nat_eq (xs ++ t ∷ [])
unfolding IsDistinct
distinct_more [] t distinct absent = (tt, tt)
distinct_more (x ∷ xs) t distinct absent =
    elim (told (nat_eq x t)) [
      | inl same ↦ absurd (let f = rw same at absent in apart refl f)
      | inr ne ↦ let later : is_in t xs ≡ false = rw ne at absent in (all_more x xs t distinct.0 ne, distinct_more xs t distinct.1 later)
    ]
  where
    all_more : (x : ℕ) (ys : List ℕ) (t : ℕ) → AllByRecursion (λ y. nat_eq x y ≡ false) ys → nat_eq x t ≡ false → AllByRecursion (λ y. nat_eq x y ≡ false) (ys ++ t ∷ [])
    all_more x [] t all ne = (ne, tt)
    all_more x (y ∷ ys) t all ne = (all.0, all_more x ys t all.1 ne)

none_at : (n s : ℕ) → set_at (replicate n []) s ≡ []
none_at zero s = refl
none_at (suc n) zero = refl
none_at (suc n) (suc s) = none_at n s

-- a pool of empty sets
pub fresh_pool : (n : ℕ) (lists : Lists) (index : Tables) → lists.lists ≡ replicate n [] → lists.spare ≡ 0 → index.tables ≡ replicate n [] → index.used ≡ 0 → IsPool lists index
unfolding IsDistinct
fresh_pool n lists index lists_are spare_is tables_are used_is = record {
  same_length = ap length tables_are ∙ ap length (sym lists_are);
  distinct = λ s. rw (empty s) tt;
  below = λ s t there. absurd (let h = rw (empty s) at there in apart h refl);
  indexed = λ s. rw (empty s) (few (omega arith) (ap (λ ts. set_at ts s) tables_are ∙ none_at n s));
  used = omega (arith, used_is);
  room =
      let e = ap chunks_of lists_are in
      let f = sum_by-replicate (λ (xs : List ℕ). chunks_for (length xs)) n [] in
      omega (arith, e, f, spare_is);
}
  where
    empty : (s : ℕ) → set_at lists.lists s ≡ []
    empty s = ap (λ xs. set_at xs s) lists_are ∙ none_at n s

-- a pool for whose tables there is memory still
pub pool_kept : (lists after : Lists) (index later : Tables) → IsPool lists index → after.lists ≡ lists.lists → later.tables ≡ index.tables → later.used ≡ index.used
    → 80 * (chunks_of after.lists + after.spare) ≤ later.capacity → IsPool after later
pool_kept lists after index later is lists_are tables_are used_is room = record {
  same_length = ap length tables_are ∙ is.same_length ∙ ap length (sym lists_are);
  distinct = λ s. rw lists_are (is.distinct s);
  below = λ s. rw lists_are (is.below s);
  indexed = λ s. rw (lists_are, tables_are) (is.indexed s);
  used = rw (tables_are, used_is) is.used;
  room = room;
}

-- a pool with one value more
pub pool_with : (lists after : Lists) (index later : Tables) (s t : ℕ) (table : List ℕ) → IsPool lists index → s < length lists.lists → t < none → is_in t (set_at lists.lists s) ≡ false
    → after.lists ≡ with_value lists.lists s t → later.tables ≡ set index.tables s table → IsIndexed (chunks_for (length (set_at lists.lists s) + 1)) (set_at lists.lists s ++ t ∷ []) table
    → later.used ≤ 2 * slots_of later.tables → 80 * (chunks_of after.lists + after.spare) ≤ later.capacity → IsPool after later
pool_with lists after index later s t table is lt small absent lists_are tables_are indexed used room = record {
  same_length = ap length tables_are ∙ length-set index.tables s table ∙ is.same_length ∙ sym (ap length lists_are ∙ length-set lists.lists s values);
  distinct = λ r. elim (cases_eq r s) [
    | inl e ↦ rw (e, here) (distinct_more (set_at lists.lists s) t (is.distinct s) absent)
    | inr ne ↦ rw (there r ne) (is.distinct r)
  ];
  below = λ r x in_it. elim (cases_eq r s) [
    | inl e ↦ below_here x (ap (is_in x) (sym here ∙ ap (set_at after.lists) (sym e)) ∙ in_it)
    | inr ne ↦ is.below r x (ap (is_in x) (sym (there r ne)) ∙ in_it)
  ];
  indexed = λ r. elim (cases_eq r s) [
    | inl e ↦ rw (e, here, table_here, longer) indexed
    | inr ne ↦ rw (there r ne, table_there r ne) (is.indexed r)
  ];
  used = used;
  room = room;
}
  where
    values : List ℕ
    values = set_at lists.lists s ++ t ∷ []

    longer : length (set_at lists.lists s ++ t ∷ []) ≡ length (set_at lists.lists s) + 1
    longer = length-append (set_at lists.lists s) (t ∷ [])

    here : set_at after.lists s ≡ set_at lists.lists s ++ t ∷ []
    here = ap (λ xs. set_at xs s) lists_are ∙ get_or-set_same lists.lists s (set_at lists.lists s ++ t ∷ []) [] lt

    there : (r : ℕ) → r ≢ s → set_at after.lists r ≡ set_at lists.lists r
    there r ne = ap (λ xs. set_at xs r) lists_are ∙ get_or-set_other lists.lists s r (set_at lists.lists s ++ t ∷ []) [] ne

    table_here : set_at later.tables s ≡ table
    table_here = ap (λ xs. set_at xs s) tables_are ∙ get_or-set_same index.tables s table [] (let e = is.same_length in omega (arith, lt, e))

    table_there : (r : ℕ) → r ≢ s → set_at later.tables r ≡ set_at index.tables r
    table_there r ne = ap (λ xs. set_at xs r) tables_are ∙ get_or-set_other index.tables s r table [] ne

    below_here : (x : ℕ) → is_in x (set_at lists.lists s ++ t ∷ []) ≡ true → x < none
    below_here x in_it = elim (or_cases (is_in x (set_at lists.lists s)) (nat_eq t x) (sym (is_in-append x t (set_at lists.lists s)) ∙ in_it)) [
      | inl old ↦ is.below s x old
      | inr new ↦ let e : t ≡ x = eqb-true t x new in omega (arith, e, small)
    ]

-- how many chunks there are with one value more
pub chunks_with : (sets : List (List ℕ)) (s t : ℕ) → s < length sets → chunks_of (with_value sets s t) + chunks_for (length (set_at sets s)) ≡ chunks_of sets + chunks_for (length (set_at sets s) + 1)
chunks_with sets s t lt =
    let e = sum_by-set (λ (xs : List ℕ). chunks_for (length xs)) sets s (set_at sets s ++ t ∷ []) [] lt in
    let f = ap chunks_for (length-append (set_at sets s) (t ∷ [])) in
    omega (arith, e, f)

-- a table is at most so large as its set's chunks ask for
pub at_most : (chunks : ℕ) (values table : List ℕ) → IsIndexed chunks values table → length table ≤ 40 * chunks
at_most chunks values table (few low is) = let e = ap length is in omega (arith, e)
at_most chunks values table (many is low high) = high

slots_all : (tables sets : List (List ℕ)) → length tables ≡ length sets → ((r : ℕ) → length (set_at tables r) ≤ 40 * chunks_for (length (set_at sets r))) → slots_of tables ≤ 40 * chunks_of sets
slots_all [] [] same bounds = omega arith
slots_all [] (y ∷ ys) same bounds = absurd (omega (arith, same))
slots_all (x ∷ xs) [] same bounds = absurd (omega (arith, same))
slots_all (x ∷ xs) (y ∷ ys) same bounds =
    let here : length x ≤ 40 * chunks_for (length y) = bounds zero in
    let later : slots_of xs ≤ 40 * chunks_of ys = slots_all xs ys (omega (arith, same)) (λ r. bounds (suc r)) in
    let e : slots_of (x ∷ xs) ≡ length x + slots_of xs = sum_by-cons (λ (zs : List ℕ). length zs) x xs in
    let f : chunks_of (y ∷ ys) ≡ chunks_for (length y) + chunks_of ys = sum_by-cons (λ (zs : List ℕ). chunks_for (length zs)) y ys in
    omega (arith, here, later, e, f)

pub slots_but_one : (tables sets : List (List ℕ)) (s : ℕ) → length tables ≡ length sets → s < length sets → ((r : ℕ) → length (set_at tables r) ≤ 40 * chunks_for (length (set_at sets r)))
    → slots_of tables + 40 * chunks_for (length (set_at sets s)) ≤ 40 * chunks_of sets + length (set_at tables s)
slots_but_one tables [] s same lt bounds = absurd (omega (arith, lt))
slots_but_one [] (y ∷ ys) s same lt bounds = absurd (omega (arith, same))
slots_but_one (x ∷ xs) (y ∷ ys) zero same lt bounds =
    let later : slots_of xs ≤ 40 * chunks_of ys = slots_all xs ys (omega (arith, same)) (λ r. bounds (suc r)) in
    let e : slots_of (x ∷ xs) ≡ length x + slots_of xs = sum_by-cons (λ (zs : List ℕ). length zs) x xs in
    let f : chunks_of (y ∷ ys) ≡ chunks_for (length y) + chunks_of ys = sum_by-cons (λ (zs : List ℕ). chunks_for (length zs)) y ys in
    omega (arith, later, e, f)
slots_but_one (x ∷ xs) (y ∷ ys) (suc s) same lt bounds =
    let here : length x ≤ 40 * chunks_for (length y) = bounds zero in
    let later : slots_of xs + 40 * chunks_for (length (set_at ys s)) ≤ 40 * chunks_of ys + length (set_at xs s) = slots_but_one xs ys s (omega (arith, same)) (omega (arith, lt)) (λ r. bounds (suc r)) in
    let e : slots_of (x ∷ xs) ≡ length x + slots_of xs = sum_by-cons (λ (zs : List ℕ). length zs) x xs in
    let f : chunks_of (y ∷ ys) ≡ chunks_for (length y) + chunks_of ys = sum_by-cons (λ (zs : List ℕ). chunks_for (length zs)) y ys in
    omega (arith, here, later, e, f)

-- there is memory for a larger table
pub room_for : (lists : Lists) (index : Tables) (s : ℕ) → IsPool lists index → s < length lists.lists → 0 < lists.spare → length (set_at index.tables s) < 20 * (chunks_for (length (set_at lists.lists s)) + 1)
    → index.used + wider (length (set_at index.tables s)) ≤ index.capacity
room_for lists index s is lt spare less =
    let sums = slots_but_one index.tables lists.lists s is.same_length lt (λ r. at_most _ _ _ (is.indexed r)) in
    let u = is.used in
    let r = is.room in
    by_size (length (set_at index.tables s)) sums u r less (told (nat_eq (length (set_at index.tables s)) 0))
  where
    by_size : (n : ℕ) → slots_of index.tables + 40 * chunks_for (length (set_at lists.lists s)) ≤ 40 * chunks_of lists.lists + n → index.used ≤ 2 * slots_of index.tables
        → 80 * (chunks_of lists.lists + lists.spare) ≤ index.capacity → n < 20 * (chunks_for (length (set_at lists.lists s)) + 1) → (nat_eq n 0 ≡ true) ⊎ (nat_eq n 0 ≡ false) → index.used + wider n ≤ index.capacity
    by_size n sums u r less (inl e) = let z : n ≡ 0 = eqb-true n 0 e in rw e (omega (arith, sums, u, r, spare, z))
    by_size n sums u r less (inr e) = rw e (omega (arith, sums, u, r, spare, less))

-- how many chunks there are at most
pub chunks_bounded : (sets : List (List ℕ)) → 15 * chunks_of sets ≤ sum_by (λ xs. length xs) sets + 14 * length sets
chunks_bounded [] = omega arith
chunks_bounded (x ∷ xs) =
    let later = chunks_bounded xs in
    let e : chunks_of (x ∷ xs) ≡ chunks_for (length x) + chunks_of xs = sum_by-cons (λ (zs : List ℕ). chunks_for (length zs)) x xs in
    let f : sum_by (λ (zs : List ℕ). length zs) (x ∷ xs) ≡ length x + sum_by (λ zs. length zs) xs = sum_by-cons (λ (zs : List ℕ). length zs) x xs in
    omega (arith, later, e, f)

-- so few values has a set
pub few_values : (xs : List ℕ) → IsDistinct nat_eq xs → ((t : ℕ) → is_in t xs ≡ true → t < none) → length xs ≤ none
few_values xs distinct below = length-le_from_distinct_below xs none distinct (λ q there. below q (turned xs q ∙ there))
  where
    eqb_swap : (a b : ℕ) → nat_eq a b ≡ nat_eq b a
    eqb_swap a b = elim (told (nat_eq a b)) [
      | inl e ↦ let f : a ≡ b = eqb-true a b e in rw f refl
      | inr e ↦ e ∙ sym (ne_eqb b a (λ f. apart (eq-eqb a b (sym f)) e))
    ]

    turned : (ys : List ℕ) (q : ℕ) → is_in q ys ≡ list_any (nat_eq q) ys
    turned [] q = refl
    turned (y ∷ ys) q = (λ i. eqb_swap y q i || turned ys q i)

-- a table with no slot, and one with some
pub no_slots : (values table : List ℕ) → IsIndexed (chunks_for (length values)) values table → length table ≡ 0 → length values ≤ 15
no_slots values table (few low is) zero_is = omega (arith, low)
no_slots values table (many is low high) zero_is = omega (arith, low, zero_is)

pub record IsFound (values table : List ℕ) : Type 0 where
  pub is : IsTableOf values table
  pub room : taken table < length table

pub found_in : (values table : List ℕ) → IsIndexed (chunks_for (length values)) values table → 0 < length table → IsFound values table
found_in values table (few low is) some = absurd (let e = ap length is in omega (arith, e, some))
found_in values table (many is low high) some = record { is = is; room = let f = is.few in omega (arith, f, low, some) }

-- the table of a set that takes a value
pub indexed_put : (chunks t : ℕ) (values table new : List ℕ) → IsIndexed chunks values table → 0 < length table → Takes (t ∷ []) table new → IsIndexed chunks (values ++ t ∷ []) new
indexed_put chunks t values table new (few low is) some takes = absurd (let e = ap length is in omega (arith, e, some))
indexed_put chunks t values table new (many is low high) some takes =
    let e = takes.same_length in
    many (table_with values (t ∷ []) table new is takes) (omega (arith, e, low)) (omega (arith, e, high))

pub indexed_skip : (chunks t : ℕ) (values table : List ℕ) → IsIndexed chunks values table → length table ≡ 0 → 0 < chunks → IsIndexed chunks (values ++ t ∷ []) table
indexed_skip chunks t values table (few low is) zero_is some = few low is
indexed_skip chunks t values table (many is low high) zero_is some = absurd (omega (arith, low, zero_is, some))

no_items : (xs : List ℕ) → length xs ≡ 0 → xs ≡ []
no_items [] is = refl
no_items (x ∷ xs) is = absurd (omega (arith, is))

-- a table that has room for one chunk more
pub first_chunk : (chunks : ℕ) (values table : List ℕ) → chunks ≡ 0 → IsIndexed chunks values table → IsIndexed (chunks + 1) values table
first_chunk chunks values table none_yet (few low is) = few (omega (arith, none_yet)) is
first_chunk chunks values table none_yet (many is low high) = few (omega (arith, none_yet)) (no_items table (omega (arith, high, none_yet)))

pub large_table : (chunks : ℕ) (values table : List ℕ) → 20 * (chunks + 1) ≤ length table → IsIndexed chunks values table → IsIndexed (chunks + 1) values table
large_table chunks values table large (few low is) = absurd (let e = ap length is in omega (arith, e, large))
large_table chunks values table large (many is low high) = many is large (omega (arith, high))

pub widened_already : (s : ℕ) (values : List ℕ) (index : Tables) → IsIndexed (chunks_for (length values) + 1) values (set_at index.tables s) → IsWidened s values index index
widened_already s values index indexed = record {
  table = set_at index.tables s;
  tables = sym (set-get_or index.tables s []);
  indexed = indexed;
  used = omega arith;
  kept = omega arith;
}

-- a table that had too few slots
pub wide_enough : (chunks : ℕ) (values table : List ℕ) → 0 < chunks → length table < 20 * (chunks + 1) → IsIndexed chunks values table
    → (20 * (chunks + 1) ≤ wider (length table)) × (wider (length table) ≤ 40 * (chunks + 1)) × (2 * length table ≤ wider (length table))
wide_enough chunks values table some less indexed = by_size (length table) (lengths indexed) less (told (nat_eq (length table) 0))
  where
    lengths : IsIndexed chunks values table → ((chunks ≤ 1) × (length table ≡ 0)) ⊎ (20 * chunks ≤ length table)
    lengths (few low is) = inl (low, ap length is)
    lengths (many is low high) = inr low

    by_size : (n : ℕ) → ((chunks ≤ 1) × (n ≡ 0)) ⊎ (20 * chunks ≤ n) → n < 20 * (chunks + 1) → (nat_eq n 0 ≡ true) ⊎ (nat_eq n 0 ≡ false) → (20 * (chunks + 1) ≤ wider n) × (wider n ≤ 40 * (chunks + 1)) × (2 * n ≤ wider n)
    by_size n (inl low) lt (inl e) = let z : n ≡ 0 = eqb-true n 0 e in let l = low.0 in rw e (omega (arith, some, l), omega (arith, some, l), omega (arith, z))
    by_size n (inl low) lt (inr e) = absurd (apart (eq-eqb n 0 low.1) e)
    by_size n (inr low) lt (inl e) = let z : n ≡ 0 = eqb-true n 0 e in absurd (omega (arith, some, low, z))
    by_size n (inr low) lt (inr e) = rw e (omega (arith, some, low), omega (arith, lt), omega arith)

pub widened_new : (s size : ℕ) (values : List ℕ) (index between later : Tables) → s < length index.tables → 0 < chunks_for (length values) → length (set_at index.tables s) < 20 * (chunks_for (length values) + 1)
    → IsIndexed (chunks_for (length values)) values (set_at index.tables s) → size ≡ wider (length (set_at index.tables s)) → between.tables ≡ set index.tables s (replicate size none)
    → between.used ≡ index.used + size → index.capacity ≤ between.capacity → Puts s values between later → IsWidened s values index later
widened_new s size values index between later lt some less indexed size_is tables_are used_is kept puts = record {
  table = puts.table;
  tables = puts.tables ∙ ap (λ ts. set ts s puts.table) tables_are ∙ set_twice index.tables s (replicate size none) puts.table;
  indexed = many (table_with [] values (set_at between.tables s) puts.table (rw fresh (fresh_table size)) puts.takes) (let w = wide.0 in omega (arith, long, size_is, w)) (let w = wide.1 in omega (arith, long, size_is, w));
  used =
      let e : slots_of (set index.tables s puts.table) + length (set_at index.tables s) ≡ slots_of index.tables + length puts.table = sum_by-set (λ (xs : List ℕ). length xs) index.tables s puts.table [] lt in
      let f : slots_of later.tables ≡ slots_of (set index.tables s puts.table) = ap slots_of (puts.tables ∙ ap (λ ts. set ts s puts.table) tables_are ∙ set_twice index.tables s (replicate size none) puts.table) in
      let u = puts.same_used in
      let w = wide.2 in
      omega (arith, e, f, u, w, used_is, long, size_is);
  kept = let c = puts.same_capacity in omega (arith, c, kept);
}
  where
    wide : (20 * (chunks_for (length values) + 1) ≤ wider (length (set_at index.tables s))) × (wider (length (set_at index.tables s)) ≤ 40 * (chunks_for (length values) + 1)) × (2 * length (set_at index.tables s) ≤ wider (length (set_at index.tables s)))
    wide = wide_enough (chunks_for (length values)) values (set_at index.tables s) some less indexed

    fresh : set_at between.tables s ≡ replicate size none
    fresh = ap (λ ts. set_at ts s) tables_are ∙ get_or-set_same index.tables s (replicate size none) [] lt

    long : length puts.table ≡ size
    long = puts.takes.same_length ∙ ap length fresh ∙ length-replicate size none
