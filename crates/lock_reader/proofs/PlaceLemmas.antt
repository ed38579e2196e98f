-- The owner of a path, by the folders above it.
use Rattle.std.proofs.Common.{◌≡◌, ◌↔◌, ℕ, ◌+◌, ◌<◌, ◌≤◌, ◌⊎◌, inl, inr, true, false, true≢false, cond, zero, suc, Bool, List, [], ◌∷◌, ◌++◌, length, map, take, drop, Option, Some, None, refl, sym, ap, subst, ◌∙◌, arith}
use Rattle.std.specs.Prelude.{◌==◌, slice_get, Contains}
use Rattle.std.specs.Option.{option_and_then}
use Rattle.std.specs.Str.Pattern.{HasTextAt, LacksTextAt}
use Rattle.std.proofs.lemmas.Bool.{cases_Bool, eqb-true}
use Rattle.std.specs.List.{HoldsAt}
use Rattle.std.specs.List.Sorted.{IsPartitionPoint, IsNonDecreasingBy}
use Rattle.std.specs.Ordering.{ordering_index}
use Rattle.std.specs.declared.cmp.Ordering.TheVariants.{Less, Equal, Greater}
use Rattle.std.proofs.lemmas.List.{length-append, take_all}
use Rattle.std.proofs.lemmas.Option.{same_Some, none-some, slice_get_within, slice_get_read, get_or_from_slice_get}
use Rattle.lock_reader.specs.Lock.{IsAscending}
use Rattle.lock_reader.specs.Owner.{IsOwner, IsOwnerAt, is_direct, owns, within}
use Rattle.lock_reader.specs.Texts.{after_front}
use Rattle.lock_reader.specs.Places.{OwnersAbove, OwnsFrom, StandsAt}
use Rattle.lock_reader.specs.declared.lock.LockEntry.{LockEntry}
use Rattle.lock_reader.proofs.Searching.{found_item, is_searchable, no_item, one_place, order}

abbrev location : LockEntry → List ℕ
location e = e.location

pub found_place : (entries : List LockEntry) (text : List ℕ) (i : ℕ) → IsAscending entries → i < length entries → HoldsAt (λ (y : LockEntry). order y.location text ≡ Equal) entries i
    → (place : ℕ) → (Some i ≡ Some place) ↔ StandsAt entries place text
unfolding IsAscending
found_place entries text i sorted within holds place =
    let found = found_item location entries text i within holds in (
      λ eq. subst (λ p. StandsAt entries p text) (same_Some i place eq) (record { entry = found.0; here = found.1; location_is = found.2 }),
      λ (s : StandsAt entries place text). ap Some (one_place location entries i place found.0 s.entry sorted found.1 s.here (found.2 ∙ sym s.location_is)),
    )

pub no_place : (entries : List LockEntry) (text : List ℕ) (i : ℕ) → IsPartitionPoint (λ (y : LockEntry). order y.location text ≡ Less) (λ (y : LockEntry). order y.location text ≡ Greater) entries i
    → (place : ℕ) → (None ≡ Some place) ↔ StandsAt entries place text
no_place entries text i point place = (
  λ e. absurd (none-some place e),
  λ (s : StandsAt entries place text). absurd (no_item location entries text i point place s.entry s.here s.location_is),
)

pub searchable : (entries : List LockEntry) (text : List ℕ) → IsAscending entries → IsNonDecreasingBy (λ (y : LockEntry). ordering_index (order y.location text)) entries
unfolding IsAscending
searchable entries text sorted = is_searchable location entries text sorted

-- ---- what a location that owns a path is

parts_front : (front text rest : List ℕ) → after_front front text ≡ Some rest → text ≡ front ++ rest
unfolding after_front
parts_front [] text rest e = same_Some text rest e
parts_front (b ∷ front) [] rest e = absurd (none-some rest e)
parts_front (b ∷ front) (c ∷ text) rest e = elim (cases_Bool (b == c)) [
  | inl same ↦ (
      let more : after_front front text ≡ Some rest = sym (ap (λ t. cond t (after_front front text) None) same) ∙ e in
      (λ i. sym (eqb-true b c same) i ∷ parts_front front text rest more i)
      )
  | inr other ↦ absurd (none-some rest (sym (ap (λ t. cond t (after_front front text) None) other) ∙ e))
]

direct_some : (o : Option (List ℕ)) → is_direct o ≡ true → (rest : List ℕ) × (o ≡ Some rest)
direct_some None e = absurd (true≢false (sym e))
direct_some (Some rest) e = (rest, refl)

both_some : (o : Option (List ℕ)) (f : List ℕ → Option (List ℕ)) (rest : List ℕ) → option_and_then f o ≡ Some rest → (mid : List ℕ) × (o ≡ Some mid) × (f mid ≡ Some rest)
both_some None f rest e = absurd (none-some rest e)
both_some (Some mid) f rest e = (mid, refl, e)

-- it is empty, or the path goes on behind it with a `/`
owned : (loc path : List ℕ) → owns loc path ≡ true → (loc ≡ []) ⊎ ((rest : List ℕ) × (path ≡ loc ++ 47 ∷ rest))
owned [] path e = inl refl
owned (b ∷ loc) path e =
    let some = direct_some (within (b ∷ loc) path) e in
    let mid = both_some (after_front (b ∷ loc) path) (after_front (47 ∷ [])) some.0 some.1 in
    inr (some.0, parts_front (b ∷ loc) path mid.0 mid.1 ∙ ap (λ m. (b ∷ loc) ++ m) (parts_front (47 ∷ []) mid.0 some.0 mid.2))

-- at its end a `/` stands in each front of the path that is longer
slash_at : (loc rest path : List ℕ) (n : ℕ) → path ≡ loc ++ 47 ∷ rest → length loc < n → (more : List ℕ) × (drop (length loc) (take n path) ≡ 47 ∷ more)
slash_at loc rest path n e lt = by loc n lt (take n path) (ap (take n) e)
  where
    by : (l : List ℕ) (k : ℕ) → length l < k → (front : List ℕ) → front ≡ take k (l ++ 47 ∷ rest) → (more : List ℕ) × (drop (length l) front ≡ 47 ∷ more)
    by [] zero h front is = absurd (omega (arith, h))
    by [] (suc k) h front is = (take k rest, is)
    by (b ∷ l) zero h front is = absurd (omega (arith, h))
    by (b ∷ l) (suc k) h front is =
        let more = by l k (omega (arith, h)) (take k (l ++ 47 ∷ rest)) refl in
        (more.0, ap (drop (suc (length l))) is ∙ more.1)

front_of : (loc rest path : List ℕ) → path ≡ loc ++ 47 ∷ rest → loc ≡ take (length loc) path
front_of loc rest path e = sym (ap (take (length loc)) e ∙ take_front loc (47 ∷ rest))
  where
    take_front : (l more : List ℕ) → take (length l) (l ++ more) ≡ l
    take_front [] more = refl
    take_front (b ∷ l) more = ap (λ z. b ∷ z) (take_front l more)

-- a front of a front
take_take : (i n : ℕ) (xs : List ℕ) → i ≤ n → take i (take n xs) ≡ take i xs
take_take zero n xs le = refl
take_take (suc i) zero xs le = absurd (omega (arith, le))
take_take (suc i) (suc n) [] le = refl
take_take (suc i) (suc n) (x ∷ xs) le = ap (λ ys. x ∷ ys) (take_take i n xs (omega (arith, le)))

-- ---- the walk

-- where the last `/` of the folder is at i, what owns the path isn't longer than that
short : (loc path folder : List ℕ) (i : ℕ) → owns loc path ≡ true → folder ≡ take (length folder) path → length loc < length folder
    → ((k : ℕ) → i < k → k ≤ length folder → LacksTextAt (47 ∷ []) folder k) → (loc ≡ []) ⊎ (length loc ≤ i)
short loc path folder i owns_it front lt lacks = elim (owned loc path owns_it) [
  | inl none ↦ inl none
  | inr (rest, parts) ↦ elim (le_or_more (length loc) i) [
    | inl le ↦ inr le
    | inr more ↦ (
        let slash = slash_at loc rest path (length folder) parts lt in
        absurd (lacks (length loc) more (omega (arith, lt)) slash.0 (ap (drop (length loc)) front ∙ slash.1))
        )
  ]
]
  where
    le_or_more : (a b : ℕ) → (a ≤ b) ⊎ (b < a)
    le_or_more a b = grind arith

-- and the one that ends there is the folder up to it
there : (loc path folder : List ℕ) → owns loc path ≡ true → folder ≡ take (length folder) path → length loc ≡ length folder → (loc ≡ []) ⊎ (loc ≡ folder)
there loc path folder owns_it front same = elim (owned loc path owns_it) [
  | inl none ↦ inl none
  | inr (rest, parts) ↦ inr (front_of loc rest path parts ∙ ap (λ n. take n path) same ∙ sym front)
]

-- an entry that is there stands somewhere
stands : (entries : List LockEntry) (e : LockEntry) (text : List ℕ) → Contains entries e → e.location ≡ text → (place : ℕ) × StandsAt entries place text
stands entries e text (k, lt, at) is = (k, record { entry = e; here = slice_get_read entries (length entries) k e refl lt (sym at); location_is = is })

contains : (entries : List LockEntry) (place : ℕ) (e : LockEntry) → slice_get entries place ≡ Some e → Contains entries e
contains entries place e here = (place, slice_get_within entries place e here, get_or_from_slice_get entries place e e here)

-- what a search for an entry that owns the path finds
pub owner_none : (entries : List LockEntry) (text path : List ℕ) (result : Option ℕ) → ((place : ℕ) → (result ≡ Some place) ↔ StandsAt entries place text) → owns text path ≡ true → OwnsFrom entries text path result
owner_none entries text path None is mine = λ e c at also. let s = stands entries e text c at in absurd (none-some s.0 ((is s.0).1 s.1))
owner_none entries text path (Some place) is mine = ((is place).0 refl, mine)

-- at first the whole path is the folder
pub above_path : (entries : List LockEntry) (path : List ℕ) → OwnersAbove entries path path
above_path entries path = record {
  front = sym (take_all (length path) path (omega arith));
  above = λ e c mine. elim (owned e.location path mine) [
    | inl none ↦ inr none
    | inr (rest, parts) ↦ inl (omega (arith, ap length parts, length-append e.location (47 ∷ rest)))
  ];
}

-- the folder above, where no entry there owns the path
pub above_next : (entries : List LockEntry) (path folder next : List ℕ) (i : ℕ) → OwnersAbove entries path folder → i ≤ length folder → next ≡ take i folder → length next ≡ i
    → ((k : ℕ) → i < k → k ≤ length folder → LacksTextAt (47 ∷ []) folder k) → OwnsFrom entries next path None → OwnersAbove entries path next
above_next entries path folder next i h within is long lacks none = record {
  front = front;
  above = λ e c mine. elim (h.above e c mine) [
    | inr empty ↦ inr empty
    | inl lt ↦ elim (short e.location path folder i mine h.front lt lacks) [
      | inl empty ↦ inr empty
      | inr le ↦ elim (below_or_at (length e.location) i le) [
        | inl less ↦ inl (omega (arith, less, long))
        | inr same ↦ elim (there e.location path next mine front (same ∙ sym long)) [
          | inl empty ↦ inr empty
          | inr at ↦ absurd (none e c at (subst (λ l. owns l path ≡ true) at mine))
        ]
      ]
    ]
  ];
}
  where
    below_or_at : (a b : ℕ) → a ≤ b → (a < b) ⊎ (a ≡ b)
    below_or_at a b h = grind (arith, h)

    front : next ≡ take (length next) path
    front = is ∙ ap (take i) h.front ∙ take_take i (length folder) path within ∙ ap (λ n. take n path) (sym long)

-- the owner stands where the nearest folder has an entry that owns the path
pub owner_found : (entries : List LockEntry) (path folder next : List ℕ) (i place : ℕ) → OwnersAbove entries path folder → i ≤ length folder → next ≡ take i folder → length next ≡ i
    → ((k : ℕ) → i < k → k ≤ length folder → LacksTextAt (47 ∷ []) folder k) → OwnsFrom entries next path (Some place) → IsOwnerAt entries path (Some place)
owner_found entries path folder next i place h within is long lacks (s, mine) = (s.entry, s.here, (contains entries place s.entry s.here, subst (λ l. owns l path ≡ true) (sym s.location_is) mine, longest))
  where
    longest : (e : LockEntry) → Contains entries e → owns e.location path ≡ true → length e.location ≤ length s.entry.location
    longest e c also =
        let size : length s.entry.location ≡ i = ap length s.location_is ∙ long in
        elim (h.above e c also) [
          | inr empty ↦ omega (arith, ap length empty)
          | inl lt ↦ elim (short e.location path folder i also h.front lt lacks) [
            | inl empty ↦ omega (arith, ap length empty)
            | inr le ↦ omega (arith, le, size)
          ]
        ]

-- and without a `/` left, it is the entry of the application folder, or there is none
pub owner_last : (entries : List LockEntry) (path folder : List ℕ) (result : Option ℕ) → OwnersAbove entries path folder → ((k : ℕ) → k ≤ length folder → LacksTextAt (47 ∷ []) folder k)
    → OwnsFrom entries [] path result → IsOwnerAt entries path result
owner_last entries path folder result h lacks from = by result from
  where
    all_empty : (e : LockEntry) → Contains entries e → owns e.location path ≡ true → e.location ≡ []
    all_empty e c mine = elim (h.above e c mine) [
      | inr empty ↦ empty
      | inl lt ↦ elim (owned e.location path mine) [
        | inl empty ↦ empty
        | inr (rest, parts) ↦ (
            let slash = slash_at e.location rest path (length folder) parts lt in
            absurd (lacks (length e.location) (omega (arith, lt)) slash.0 (ap (drop (length e.location)) h.front ∙ slash.1))
            )
      ]
    ]

    not_owned : (b : Bool) → (b ≡ true → ⊥) → b ≡ false
    not_owned true f = absurd (f refl)
    not_owned false f = refl

    by : (r : Option ℕ) → OwnsFrom entries [] path r → IsOwnerAt entries path r
    by None none = λ e c. not_owned (owns e.location path) (λ mine. let empty = all_empty e c mine in none e c empty (subst (λ l. owns l path ≡ true) empty mine))
    by (Some place) (s, mine) = (
      s.entry,
      s.here,
      (contains entries place s.entry s.here, subst (λ l. owns l path ≡ true) (sym s.location_is) mine, λ e c also. omega (arith, ap length (all_empty e c also))),
    )

-- a location that owns the path is a front of it
front_owned : (loc path : List ℕ) → owns loc path ≡ true → loc ≡ take (length loc) path
front_owned loc path mine = elim (owned loc path mine) [
  | inl empty ↦ empty ∙ ap (λ (l : List ℕ). take (length l) path) (sym empty)
  | inr (rest, parts) ↦ front_of loc rest path parts
]

-- a path has one owner at most
pub one_owner : (entries : List LockEntry) (path : List ℕ) (p q : ℕ) (a b : LockEntry) → IsAscending entries → slice_get entries p ≡ Some a → slice_get entries q ≡ Some b
    → IsOwner entries path (Some a) → IsOwner entries path (Some b) → (p ≡ q) × (a ≡ b)
unfolding IsAscending
one_owner entries path p q a b sorted at there x y =
    let long : length a.location ≡ length b.location = omega (arith, x.2 b y.0 y.1, y.2 a x.0 x.1) in
    let same : a.location ≡ b.location = front_owned a.location path x.1 ∙ ap (λ n. take n path) long ∙ sym (front_owned b.location path y.1) in
    let place : p ≡ q = one_place location entries p q a b sorted at there same in
    (place, same_Some a b (sym at ∙ ap (slice_get entries) place ∙ there))
