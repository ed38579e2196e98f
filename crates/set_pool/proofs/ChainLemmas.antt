-- Lists in chunks before and after a value is added.
use Rattle.std.proofs.Common.{◌≡◌, ◌≢◌, ℕ, zero, suc, ◌+◌, ◌-◌, ◌*◌, ◌<◌, ◌≤◌, ◌⊎◌, inl, inr, cond, List, [], ◌∷◌, ◌++◌, length, get_or, set, map, take, replicate, refl, sym, ◌∙◌, ap, arith, append_assoc, get_or-set_same, get_or-set_other, length-append, length-set}
use Rattle.std.specs.Prelude.{nat_eq}
use Rattle.std.specs.List.{sum_by}
use Rattle.std.proofs.Math.ListN.{get_or-append}
use Rattle.std.proofs.Math.Seq.{get_or-append_seam, take-suc-set}
use Rattle.std.proofs.lemmas.Bool.{cases_eq, eq-eqb, ne_eqb}
use Rattle.std.proofs.lemmas.List.{get_or-map, length-map, length-take-le}
use Rattle.std.proofs.lemmas.List.Folds.{sum_by-replicate}
use Rattle.std.proofs.lemmas.List.Sums.{sum_by-cons, sum_by-set}
use Rattle.set_pool.specs.Sets.{chunks_for, chunks_of, set_at, with_value}
use Rattle.set_pool.specs.Chains.{AreChained, AreOwned, IsChain, chunk, empty, end_at, list_in, values_of}
use Rattle.set_pool.specs.declared.lists.Chunk.{Chunk}
use Rattle.set_pool.specs.declared.lists.End.{End}
use Rattle.set_pool.proofs.Members.{one_changed}

-- the chunks of a list stay
module _ (owner other : ℕ → ℕ) (chunks new : List Chunk) (s : ℕ) where
  pub same_owned : (n c bound more : ℕ) → bound ≤ more → ((k : ℕ) → k < bound → owner k ≡ s → (other k ≡ s) × (chunk new k ≡ chunk chunks k)) → AreOwned owner chunks s n c bound → AreOwned other new s n c more
  same_owned zero c bound more fits stays owned = tt
  same_owned (suc n) c bound more fits stays owned =
      let e = stays c owned.0 owned.1 in (
        omega (arith, fits, owned.0),
        e.0,
        ap (λ (x : Chunk). length x.values) e.1 ∙ owned.2,
        rw e.1 (same_owned n (chunk chunks c).before c c (omega arith) (λ k less. stays k (omega (arith, less, owned.0))) owned.3),
      )

  pub same_values : (n c j bound : ℕ) → ((k : ℕ) → k < bound → owner k ≡ s → (other k ≡ s) × (chunk new k ≡ chunk chunks k)) → AreOwned owner chunks s n c bound → values_of new n c j ≡ values_of chunks n c j
  same_values zero c j bound stays owned = refl
  same_values (suc n) c j bound stays owned =
      let e = stays c owned.0 owned.1 in
      ap (λ (x : Chunk). values_of new n x.before 15 ++ take j x.values) e.1
      ∙ ap (λ xs. xs ++ take j (chunk chunks c).values) (same_values n (chunk chunks c).before 15 c (λ k less. stays k (omega (arith, less, owned.0))) owned.3)

-- how many values there are
pub length_of : (owner : ℕ → ℕ) (chunks : List Chunk) (s n c j bound : ℕ) → j ≤ 15 → (n ≡ 0 → j ≡ 15) → AreOwned owner chunks s n c bound → length (values_of chunks n c j) + 15 ≡ 15 * n + j
length_of owner chunks s zero c j bound few full owned = let e = full refl in omega (arith, e)
length_of owner chunks s (suc n) c j bound few full owned =
    let e = length-append (values_of chunks n (chunk chunks c).before 15) (take j (chunk chunks c).values) in
    let f = length-take-le j (chunk chunks c).values (omega (arith, few, owned.2)) in
    let g = length_of owner chunks s n (chunk chunks c).before 15 c (omega arith) (λ _. refl) owned.3 in
    omega (arith, e, f, g)

pub chain_length : (owner : ℕ → ℕ) (chunks : List Chunk) (s : ℕ) (e : End) → IsChain owner chunks s e → length (list_in chunks e) + 15 ≡ 15 * e.count + e.filled
chain_length owner chunks s e is = length_of owner chunks s e.count e.chunk e.filled (length chunks) is.few is.full is.owned

pub list_of : (chunks : List Chunk) (ends : List End) (s : ℕ) → s < length ends → set_at (map (list_in chunks) ends) s ≡ list_in chunks (end_at ends s)
list_of chunks ends s lt = get_or-map (list_in chunks) ends s empty [] lt

-- a chunk of one list is written, which others don't have
module _ (owner : ℕ → ℕ) (chunks : List Chunk) (c : ℕ) (x : Chunk) where
  pub others_stay : (s r bound : ℕ) → owner c ≡ s → r ≢ s → (k : ℕ) → k < bound → owner k ≡ r → (owner k ≡ r) × (chunk (set chunks c x) k ≡ chunk chunks k)
  others_stay s r bound own ne k less is = (is, get_or-set_other chunks c k x (record { values = []; before = 0 }) (λ e. ne (sym is ∙ ap owner e ∙ own)))

  pub earlier_stay : (s : ℕ) (k : ℕ) → k < c → owner k ≡ s → (owner k ≡ s) × (chunk (set chunks c x) k ≡ chunk chunks k)
  earlier_stay s k less is = (is, get_or-set_other chunks c k x (record { values = []; before = 0 }) (λ e. omega (arith, less, e)))

-- one value more in the last chunk
module _ (owner : ℕ → ℕ) (chunks : List Chunk) (s n c j t : ℕ) (x : Chunk) (lt : c < length chunks) (less : j < 15) (long : length (chunk chunks c).values ≡ 15)
    (values_are : x.values ≡ set (chunk chunks c).values j t) (before_is : x.before ≡ (chunk chunks c).before) where
  is_there : chunk (set chunks c x) c ≡ x
  is_there = get_or-set_same chunks c x (record { values = []; before = 0 }) lt

  pub value_added : AreOwned owner chunks s n (chunk chunks c).before c → values_of (set chunks c x) (suc n) c (suc j) ≡ values_of chunks (suc n) c j ++ t ∷ []
  value_added owned =
      ap (λ (y : Chunk). values_of (set chunks c x) n y.before 15 ++ take (suc j) y.values) is_there
      ∙ (λ i. values_of (set chunks c x) n (before_is i) 15 ++ take (suc j) (values_are i))
      ∙ (λ i. same_values owner owner chunks (set chunks c x) s n (chunk chunks c).before 15 c (earlier_stay owner chunks c x s) owned i
      ++ take-suc-set (chunk chunks c).values j t (omega (arith, less, long)) i)
      ∙ sym (append_assoc (values_of chunks n (chunk chunks c).before 15) (take j (chunk chunks c).values) (t ∷ []))

  pub owned_still : owner c ≡ s → AreOwned owner chunks s n (chunk chunks c).before c → AreOwned owner (set chunks c x) s (suc n) c (length (set chunks c x))
  owned_still own owned = (
    (let e = length-set chunks c x in omega (arith, lt, e)),
    own,
    ap (λ (y : Chunk). length y.values) is_there ∙ ap length values_are ∙ length-set (chunk chunks c).values j t ∙ long,
    rw (is_there, before_is) (same_owned owner owner chunks (set chunks c x) s n (chunk chunks c).before c c (omega arith) (earlier_stay owner chunks c x s) owned),
  )

-- one value more in the last of n chunks
pub pushed : (owner : ℕ → ℕ) (chunks : List Chunk) (s n c j t : ℕ) (x : Chunk) → 0 < n → c < length chunks → j < 15 → AreOwned owner chunks s n c (length chunks)
    → x.values ≡ set (chunk chunks c).values j t → x.before ≡ (chunk chunks c).before
    → (values_of (set chunks c x) n c (suc j) ≡ values_of chunks n c j ++ t ∷ []) × AreOwned owner (set chunks c x) s n c (length (set chunks c x))
pushed owner chunks s zero c j t x some lt less owned values_are before_is = absurd (omega (arith, some))
pushed owner chunks s (suc n) c j t x some lt less owned values_are before_is = (
  value_added owner chunks s n c j t x lt less owned.2 values_are before_is owned.3,
  owned_still owner chunks s n c j t x lt less owned.2 values_are before_is owned.1 owned.3,
)

pub record IsOwned (owner : ℕ → ℕ) (chunks : List Chunk) (s c bound : ℕ) : Type 0 where
  pub below : c < bound
  pub own : owner c ≡ s
  pub long : length (chunk chunks c).values ≡ 15

pub top_of : (owner : ℕ → ℕ) (chunks : List Chunk) (s n c bound : ℕ) → 0 < n → AreOwned owner chunks s n c bound → IsOwned owner chunks s c bound
top_of owner chunks s zero c bound some owned = absurd (omega (arith, some))
top_of owner chunks s (suc n) c bound some owned = record { below = owned.0; own = owned.1; long = owned.2 }

-- the list whose last chunk takes one value more
module _ (chunks : List Chunk) (ends : List End) (spare capacity s t : ℕ) (x : Chunk) (e last : End) (are : AreChained chunks ends spare capacity) (lt : s < length ends)
    (was : e ≡ end_at ends s) (some : 0 < e.count) (less : e.filled < 15)
    (values_are : x.values ≡ set (chunk chunks e.chunk).values e.filled t) (before_is : x.before ≡ (chunk chunks e.chunk).before)
    (chunk_is : last.chunk ≡ e.chunk) (count_is : last.count ≡ e.count) (filled_is : last.filled ≡ suc e.filled) where
  chain : IsChain are.owner chunks s e
  chain = rw was (are.chains s lt)

  top : IsOwned are.owner chunks s e.chunk (length chunks)
  top = top_of are.owner chunks s e.count e.chunk (length chunks) some chain.owned

  both : (values_of (set chunks e.chunk x) e.count e.chunk (suc e.filled) ≡ values_of chunks e.count e.chunk e.filled ++ t ∷ []) × AreOwned are.owner (set chunks e.chunk x) s e.count e.chunk (length (set chunks e.chunk x))
  both = pushed are.owner chunks s e.count e.chunk e.filled t x some top.below less chain.owned values_are before_is

  same_there : (r : ℕ) → r ≢ s → end_at (set ends s last) r ≡ end_at ends r
  same_there r ne = get_or-set_other ends s r last empty ne

  same_here : end_at (set ends s last) s ≡ last
  same_here = get_or-set_same ends s last empty lt

  pub pushed_lists : map (list_in (set chunks e.chunk x)) (set ends s last) ≡ with_value (map (list_in chunks) ends) s t
  pushed_lists =
      one_changed (list_in (set chunks e.chunk x)) (list_in chunks) (set ends s last) ends s (set_at (map (list_in chunks) ends) s ++ t ∷ []) empty lt (length-set ends s last) here there
    where
      here : list_in (set chunks e.chunk x) (end_at (set ends s last) s) ≡ set_at (map (list_in chunks) ends) s ++ t ∷ []
      here =
          ap (list_in (set chunks e.chunk x)) same_here
          ∙ (λ i. values_of (set chunks e.chunk x) (count_is i) (chunk_is i) (filled_is i))
          ∙ both.0
          ∙ ap (λ (f : End). list_in chunks f ++ t ∷ []) was
          ∙ ap (λ xs. xs ++ t ∷ []) (sym (list_of chunks ends s lt))

      there : (r : ℕ) → r < length ends → r ≢ s → list_in (set chunks e.chunk x) (end_at (set ends s last) r) ≡ list_in chunks (end_at ends r)
      there r below ne =
          let other = are.chains r below in
          ap (list_in (set chunks e.chunk x)) (same_there r ne)
          ∙ same_values are.owner are.owner chunks (set chunks e.chunk x) r (end_at ends r).count (end_at ends r).chunk (end_at ends r).filled (length chunks)
          (others_stay are.owner chunks e.chunk x s r (length chunks) top.own ne) other.owned

  pub pushed_chained : AreChained (set chunks e.chunk x) (set ends s last) spare capacity
  pushed_chained = record {
    owner = are.owner;
    chains = chains;
    total = let sums = sum_by-set (λ (f : End). f.count) ends s last empty lt in let f = ap (λ (f : End). f.count) was in let g = length-set chunks e.chunk x in let h = are.total in omega (arith, sums, f, g, h, count_is);
    room = let g = length-set chunks e.chunk x in let h = are.room in omega (arith, g, h);
    few = let g = length-set chunks e.chunk x in let h = are.few in omega (arith, g, h);
  }
    where
      chains : (r : ℕ) → r < length (set ends s last) → IsChain are.owner (set chunks e.chunk x) r (end_at (set ends s last) r)
      chains r below = elim (cases_eq r s) [
        | inl is ↦ rw (is, same_here) (record {
          some = omega (arith, filled_is);
          few = omega (arith, filled_is, less);
          full = λ none. absurd (omega (arith, none, count_is, some));
          owned = rw (count_is, chunk_is) both.1;
        })
        | inr ne ↦
            let other = are.chains r (let g = length-set ends s last in omega (arith, below, g)) in
            rw (same_there r ne) (record {
              some = other.some;
              few = other.few;
              full = other.full;
              owned = same_owned are.owner are.owner chunks (set chunks e.chunk x) r (end_at ends r).count (end_at ends r).chunk (length chunks) (length (set chunks e.chunk x))
                  (let g = length-set chunks e.chunk x in omega (arith, g)) (others_stay are.owner chunks e.chunk x s r (length chunks) top.own ne) other.owned;
            })
      ]

-- the list for which a chunk begins
module _ (chunks : List Chunk) (ends : List End) (spare less capacity more s t : ℕ) (x : Chunk) (e last : End) (are : AreChained chunks ends spare capacity) (lt : s < length ends)
    (was : e ≡ end_at ends s) (full : e.filled ≡ 15) (first : take 1 x.values ≡ t ∷ []) (long : length x.values ≡ 15) (before_is : x.before ≡ e.chunk)
    (chunk_is : last.chunk ≡ length chunks) (count_is : last.count ≡ suc e.count) (filled_is : last.filled ≡ 1) (spare_is : spare ≡ suc less) (wider : capacity ≤ more) where
  old_chain : IsChain are.owner chunks s e
  old_chain = rw was (are.chains s lt)

  abbrev owns : ℕ → ℕ
  owns k = cond (nat_eq k (length chunks)) s (are.owner k)

  owns_new : owns (length chunks) ≡ s
  owns_new = rw (eq-eqb (length chunks) (length chunks) refl) refl

  stay : (r k : ℕ) → k < length chunks → are.owner k ≡ r → (owns k ≡ r) × (chunk (chunks ++ x ∷ []) k ≡ chunk chunks k)
  stay r k below is = (
    rw (ne_eqb k (length chunks) (λ f. omega (arith, below, f))) is,
    get_or-append chunks (x ∷ []) (record { values = []; before = 0 }) k below,
  )

  new_there : chunk (chunks ++ x ∷ []) (length chunks) ≡ x
  new_there = get_or-append_seam chunks x [] (record { values = []; before = 0 })

  same_end : (r : ℕ) → r ≢ s → end_at (set ends s last) r ≡ end_at ends r
  same_end r ne = get_or-set_other ends s r last empty ne

  new_end : end_at (set ends s last) s ≡ last
  new_end = get_or-set_same ends s last empty lt

  pub begun_lists : map (list_in (chunks ++ x ∷ [])) (set ends s last) ≡ with_value (map (list_in chunks) ends) s t
  begun_lists =
      one_changed (list_in (chunks ++ x ∷ [])) (list_in chunks) (set ends s last) ends s (set_at (map (list_in chunks) ends) s ++ t ∷ []) empty lt (length-set ends s last) here there
    where
      here : list_in (chunks ++ x ∷ []) (end_at (set ends s last) s) ≡ set_at (map (list_in chunks) ends) s ++ t ∷ []
      here =
          ap (list_in (chunks ++ x ∷ [])) new_end
          ∙ (λ i. values_of (chunks ++ x ∷ []) (count_is i) (chunk_is i) (filled_is i))
          ∙ ap (λ (y : Chunk). values_of (chunks ++ x ∷ []) e.count y.before 15 ++ take 1 y.values) new_there
          ∙ (λ i. values_of (chunks ++ x ∷ []) e.count (before_is i) (sym full i) ++ first i)
          ∙ ap (λ xs. xs ++ t ∷ []) (same_values are.owner owns chunks (chunks ++ x ∷ []) s e.count e.chunk e.filled (length chunks) (stay s) old_chain.owned)
          ∙ ap (λ (f : End). list_in chunks f ++ t ∷ []) was
          ∙ ap (λ xs. xs ++ t ∷ []) (sym (list_of chunks ends s lt))

      there : (r : ℕ) → r < length ends → r ≢ s → list_in (chunks ++ x ∷ []) (end_at (set ends s last) r) ≡ list_in chunks (end_at ends r)
      there r below ne =
          let other = are.chains r below in
          ap (list_in (chunks ++ x ∷ [])) (same_end r ne)
          ∙ same_values are.owner owns chunks (chunks ++ x ∷ []) r (end_at ends r).count (end_at ends r).chunk (end_at ends r).filled (length chunks) (stay r) other.owned

  pub begun_chained : AreChained (chunks ++ x ∷ []) (set ends s last) less more
  begun_chained = record {
    owner = owns;
    chains = chains;
    total = let sums = sum_by-set (λ (f : End). f.count) ends s last empty lt in let f = ap (λ (f : End). f.count) was in let h = are.total in omega (arith, sums, f, longer, h, count_is);
    room = let h = are.room in omega (arith, longer, h, spare_is, wider);
    few = let h = are.few in omega (arith, longer, h, spare_is);
  }
    where
      longer : length (chunks ++ x ∷ []) ≡ length chunks + 1
      longer = length-append chunks (x ∷ [])

      owned_now : AreOwned owns (chunks ++ x ∷ []) s (suc e.count) (length chunks) (length (chunks ++ x ∷ []))
      owned_now = (
        omega (arith, longer),
        owns_new,
        ap (λ (y : Chunk). length y.values) new_there ∙ long,
        rw (new_there, before_is) (same_owned are.owner owns chunks (chunks ++ x ∷ []) s e.count e.chunk (length chunks) (length chunks) (omega arith) (stay s) old_chain.owned),
      )

      chains : (r : ℕ) → r < length (set ends s last) → IsChain owns (chunks ++ x ∷ []) r (end_at (set ends s last) r)
      chains r below = elim (cases_eq r s) [
        | inl is ↦ rw (is, new_end) (record {
          some = omega (arith, filled_is);
          few = omega (arith, filled_is);
          full = λ none. absurd (omega (arith, none, count_is));
          owned = rw (count_is, chunk_is) owned_now;
        })
        | inr ne ↦
            let other = are.chains r (let g = length-set ends s last in omega (arith, below, g)) in
            rw (same_end r ne) (record {
              some = other.some;
              few = other.few;
              full = other.full;
              owned = same_owned are.owner owns chunks (chunks ++ x ∷ []) r (end_at ends r).count (end_at ends r).chunk (length chunks) (length (chunks ++ x ∷ []))
                  (omega (arith, longer)) (stay r) other.owned;
            })
      ]

-- how many chunks the lists have
pub sum_by_same : {X Y : Type 0} (f : X → ℕ) (g : Y → ℕ) (h : X → Y) (xs : List X) (d : X) → ((k : ℕ) → k < length xs → f (get_or xs k d) ≡ g (h (get_or xs k d))) → sum_by f xs ≡ sum_by g (map h xs)
sum_by_same f g h [] d same = refl
sum_by_same f g h (x ∷ xs) d same =
    let here : f x ≡ g (h x) = same zero (omega arith) in
    let later : sum_by f xs ≡ sum_by g (map h xs) = sum_by_same f g h xs d (λ k lt. same (suc k) (omega (arith, lt))) in
    let e = sum_by-cons f x xs in
    let e2 = sum_by-cons g (h x) (map h xs) in
    omega (arith, here, later, e, e2)

pub chunks_are : (chunks : List Chunk) (ends : List End) (spare capacity : ℕ) → AreChained chunks ends spare capacity → length chunks ≡ chunks_of (map (list_in chunks) ends)
chunks_are chunks ends spare capacity are =
    sym are.total ∙ sum_by_same (λ (f : End). f.count) (λ xs. chunks_for (length xs)) (list_in chunks) ends empty
    (λ k lt. let is = are.chains k lt in let e = chain_length are.owner chunks k (end_at ends k) is in let f = is.some in let g = is.few in omega (arith, e, f, g))

-- no lists yet
pub none_chained : (n capacity : ℕ) → AreChained [] (replicate n empty) 0 capacity
none_chained n capacity = record {
  owner = λ k. 0;
  chains = λ s lt. rw (all_empty n s) (record { some = omega arith; few = omega arith; full = λ is. refl; owned = tt });
  total = let e = sum_by-replicate (λ (f : End). f.count) n empty in omega (arith, e);
  room = omega arith;
  few = omega arith;
}
  where
    all_empty : (k s : ℕ) → end_at (replicate k empty) s ≡ empty
    all_empty zero s = refl
    all_empty (suc k) zero = refl
    all_empty (suc k) (suc s) = all_empty k s

pub no_lists : (n : ℕ) (chunks : List Chunk) → map (list_in chunks) (replicate n empty) ≡ replicate n []
no_lists zero chunks = refl
no_lists (suc n) chunks = ap (λ xs. [] ∷ xs) (no_lists n chunks)

-- memory for other chunks that are spare
pub chained_with : (chunks : List Chunk) (ends : List End) (spare less capacity more : ℕ) → AreChained chunks ends spare capacity → length chunks + less ≤ more → length chunks + less ≤ 4294967295 → AreChained chunks ends less more
chained_with chunks ends spare less capacity more are room few = record {
  owner = are.owner;
  chains = are.chains;
  total = are.total;
  room = room;
  few = few;
}
