-- Values that come to one vertex, and to one after another.
use Rattle.std.proofs.Common.{◌≡◌, ◌≢◌, ℕ, zero, suc, ◌+◌, ◌*◌, ◌<◌, ◌≤◌, ◌⊎◌, inl, inr, Bool, true, false, ◌||◌, cond, not, List, [], ◌∷◌, ◌++◌, length, set, refl, ap, sym, ◌∙◌, subst, arith, append_assoc, length-append, length-set}
use Rattle.std.specs.Prelude.{Contains, IsTrue, nat_eq}
use Rattle.std.specs.List.{IsDistinct, list_any}
use Rattle.std.proofs.lemmas.Bool.{cases_Bool, cases_eq, cases_lt, eq-eqb, eqb-true, or_cases}
use Rattle.std.proofs.Math.Bool.{or-true}
use Rattle.std.proofs.lemmas.List.{append-nil, length_push, set-get_or}
use Rattle.std.proofs.lemmas.List.Folds.{list_any-append}
use Rattle.std.proofs.lemmas.List.Elements.{Contains-append_cases, Contains-append_left, Contains-append_right, Contains-push, Contains-push_cases}
use Rattle.set_pool.proofs.PoolLemmas.{distinct_more}
use Rattle.set_pool.proofs.WindowLemmas.{set_twice}
use Rattle.composer.proofs.Members.{none, here, only}
use Rattle.composer.specs.Rows.{Holds, has, is_in, room, row}
use Rattle.composer.specs.Work.{Inserts, Offers}
use Rattle.composer.proofs.RowLemmas.{apart, row-set_same, row-set_other}
use Rattle.composer.proofs.RoomLemmas.{room_le, room_lt}

pub or_none : (b : Bool) → (b || false) ≡ b
or_none true = refl
or_none false = refl

or_group : (a b c : Bool) → ((a || b) || c) ≡ (a || (b || c))
or_group true b c = refl
or_group false b c = refl

pub is_in_both : (t : ℕ) (xs ys : List ℕ) → is_in t (xs ++ ys) ≡ (is_in t xs || is_in t ys)
is_in_both t xs ys = list_any-append (λ y. nat_eq y t) xs ys

pub is_in_one : (t x : ℕ) → is_in t (x ∷ []) ≡ nat_eq x t
is_in_one t x = or_none (nat_eq x t)

-- no values came
pub Inserts-none : (v : ℕ) (rows : List (List ℕ)) → Inserts [] v rows rows
Inserts-none v rows = record {
  more = [];
  rows = sym (ap (set rows v) (append-nil (row rows v)) ∙ set-get_or rows v []);
  holds = λ t. ap (is_in t) (append-nil (row rows v)) ∙ sym (or_none (is_in t (row rows v)));
  distinct = subst (IsDistinct nat_eq) (sym (append-nil (row rows v)));
  grown = λ lt. absurd (omega (arith, lt));
}

module _ (ts : List ℕ) (v t : ℕ) (old now new : List (List ℕ)) (lt : v < length old) (i : Inserts ts v old now) where
  row_now : row now v ≡ row old v ++ i.more
  row_now = ap (λ rows. row rows v) i.rows ∙ row-set_same old v (row old v ++ i.more) lt

  -- one more that was there
  pub Inserts-again : is_in t (row now v) ≡ true → new ≡ now → Inserts (ts ++ t ∷ []) v old new
  Inserts-again there same = record {
    more = i.more;
    rows = same ∙ i.rows;
    holds = λ x. i.holds x ∙ with_it x (cases_Bool (nat_eq t x));
    distinct = i.distinct;
    grown = i.grown;
  }
    where
      was : (is_in t (row old v) || is_in t ts) ≡ true
      was = sym (i.holds t) ∙ ap (is_in t) (sym row_now) ∙ there

      with_it : (x : ℕ) → (nat_eq t x ≡ true) ⊎ (nat_eq t x ≡ false) → (is_in x (row old v) || is_in x ts) ≡ (is_in x (row old v) || is_in x (ts ++ t ∷ []))
      with_it x (inl e) =
          let same : t ≡ x = eqb-true t x e in
          let held : (is_in x (row old v) || is_in x ts) ≡ true = subst (λ y. (is_in y (row old v) || is_in y ts) ≡ true) same was in
          held ∙ sym (ap (λ b. is_in x (row old v) || b) (is_in_both x ts (t ∷ [])) ∙ sym (or_group (is_in x (row old v)) (is_in x ts) (is_in x (t ∷ []))) ∙ ap (λ b. b || is_in x (t ∷ [])) held)
      with_it x (inr e) = ap (λ b. is_in x (row old v) || b) (sym (is_in_both x ts (t ∷ []) ∙ ap (λ b. is_in x ts || b) (is_in_one x t ∙ e) ∙ or_none (is_in x ts)))

  -- one more that was new
  pub Inserts-new : is_in t (row now v) ≡ false → new ≡ set now v (row now v ++ t ∷ []) → Inserts (ts ++ t ∷ []) v old new
  Inserts-new absent is = record {
    more = i.more ++ t ∷ [];
    rows = is ∙ (λ k. set (i.rows k) v (row_now k ++ t ∷ [])) ∙ set_twice old v (row old v ++ i.more) ((row old v ++ i.more) ++ t ∷ []) ∙ ap (set old v) (append_assoc (row old v) i.more (t ∷ []));
    holds = λ x.
        ap (is_in x) (sym (append_assoc (row old v) i.more (t ∷ [])))
        ∙ is_in_both x (row old v ++ i.more) (t ∷ [])
        ∙ ap (λ b. b || is_in x (t ∷ [])) (i.holds x)
        ∙ or_group (is_in x (row old v)) (is_in x ts) (is_in x (t ∷ []))
        ∙ ap (λ b. is_in x (row old v) || b) (sym (is_in_both x ts (t ∷ [])));
    distinct = λ d. subst (IsDistinct nat_eq) (append_assoc (row old v) i.more (t ∷ [])) (distinct_more (row old v ++ i.more) t (i.distinct d) (ap (is_in t) (sym row_now) ∙ absent));
    grown = λ some. (t, absent_before (cases_Bool (is_in t (row old v))), present);
  }
    where
      absent_before : (is_in t (row old v) ≡ true) ⊎ (is_in t (row old v) ≡ false) → is_in t (row old v) ≡ false
      absent_before (inl e) = absurd (apart (ap (is_in t) row_now ∙ is_in_both t (row old v) i.more ∙ ap (λ b. b || is_in t i.more) e) absent)
      absent_before (inr e) = e

      present : is_in t (row old v ++ (i.more ++ t ∷ [])) ≡ true
      present =
          ap (is_in t) (sym (append_assoc (row old v) i.more (t ∷ [])))
          ∙ is_in_both t (row old v ++ i.more) (t ∷ [])
          ∙ ap (λ b. is_in t (row old v ++ i.more) || b) (is_in_one t t ∙ eq-eqb t t refl)
          ∙ or-true (is_in t (row old v ++ i.more))

-- what stood somewhere stands there still
pub kept_by : (old new : List (List ℕ)) → ((v : ℕ) → (more : List ℕ) × (row new v ≡ row old v ++ more)) → (t v : ℕ) → Holds old t v → Holds new t v
kept_by old new extends t v h = let e = extends v in ap (is_in t) e.1 ∙ is_in_both t (row old v) e.0 ∙ ap (λ b. b || is_in t e.0) h

-- to no vertex
pub Offers-none : (ts : List ℕ) (rows : List (List ℕ)) (pending : List ℕ) → Offers ts [] rows pending rows pending
Offers-none ts rows pending = record {
  same_length = refl;
  extends = λ v. ([], sym (append-nil (row rows v)));
  found = λ t v h. inl h;
  all = λ t v h c. absurd (none v c);
  distinct = λ d. d;
  still_pending = λ v c. c;
  queued = λ v lt. absurd (omega (arith, lt));
  pending_in = λ v c. inl c;
  less_left = λ n m few within. omega arith;
}

-- to one vertex
module _ (ts : List ℕ) (v : ℕ) (old new : List (List ℕ)) (pending : List ℕ) (lt : v < length old) (i : Inserts ts v old new) where
  here_now : row new v ≡ row old v ++ i.more
  here_now = ap (λ rows. row rows v) i.rows ∙ row-set_same old v (row old v ++ i.more) lt

  there_now : (w : ℕ) → w ≢ v → row new w ≡ row old w
  there_now w ne = ap (λ rows. row rows w) i.rows ∙ row-set_other old v w (row old v ++ i.more) ne

  extends : (w : ℕ) → (more : List ℕ) × (row new w ≡ row old w ++ more)
  extends w = elim (cases_eq w v) [
    | inl e ↦ (i.more, subst (λ u. row new u ≡ row old u ++ i.more) (sym e) here_now)
    | inr ne ↦ ([], there_now w ne ∙ sym (append-nil (row old w)))
  ]

  found : (t w : ℕ) → Holds new t w → Holds old t w ⊎ (IsTrue (is_in t ts) × Contains (v ∷ []) w)
  found t w h = elim (cases_eq w v) [
    | inl e ↦
        let g : (is_in t (row old v) || is_in t ts) ≡ true = sym (i.holds t) ∙ ap (is_in t) (sym here_now) ∙ ap (λ u. is_in t (row new u)) (sym e) ∙ h in
        elim (or_cases (is_in t (row old v)) (is_in t ts) g) [
          | inl k ↦ inl (ap (λ u. is_in t (row old u)) e ∙ k)
          | inr k ↦ inr (k, subst (λ u. Contains (v ∷ []) u) (sym e) (here v []))
        ]
    | inr ne ↦ inl (ap (is_in t) (sym (there_now w ne)) ∙ h)
  ]

  all : (t w : ℕ) → IsTrue (is_in t ts) → Contains (v ∷ []) w → Holds new t w
  all t w h c =
      ap (λ u. is_in t (row new u)) (sym (only v w c)) ∙ ap (is_in t) here_now ∙ i.holds t ∙ ap (λ b. is_in t (row old v) || b) h ∙ or-true (is_in t (row old v))

  distinct : ((w : ℕ) → IsDistinct nat_eq (row old w)) → (w : ℕ) → IsDistinct nat_eq (row new w)
  distinct d w = elim (cases_eq w v) [
    | inl e ↦ subst (IsDistinct nat_eq) (sym (ap (row new) e ∙ here_now)) (i.distinct (d v))
    | inr ne ↦ subst (IsDistinct nat_eq) (sym (there_now w ne)) (d w)
  ]

  -- where none was new
  pub Offers-still : length (row new v) ≡ length (row old v) → Offers ts (v ∷ []) old pending new pending
  Offers-still same = record {
    same_length = ap length i.rows ∙ length-set old v (row old v ++ i.more);
    extends = extends;
    found = found;
    all = all;
    distinct = distinct;
    still_pending = λ w c. c;
    queued = λ w less. absurd (elim (cases_eq w v) [
      | inl e ↦ (let a = ap (λ u. length (row new u)) e in let b = ap (λ u. length (row old u)) e in omega (arith, less, same, a, b))
      | inr ne ↦ (let a = ap length (there_now w ne) in omega (arith, less, a))
    ]);
    pending_in = λ w c. inl c;
    less_left = λ n m few within. let l = room_le n m (has old) (has new) (kept_by old new extends) in omega (arith, l);
  }

  -- where one was
  pub Offers-queued : length (row new v) ≢ length (row old v) → Offers ts (v ∷ []) old pending new (pending ++ v ∷ [])
  Offers-queued grew = record {
    same_length = ap length i.rows ∙ length-set old v (row old v ++ i.more);
    extends = extends;
    found = found;
    all = all;
    distinct = distinct;
    still_pending = λ w c. Contains-append_left pending (v ∷ []) w c;
    queued = λ w less. elim (cases_eq w v) [
      | inl e ↦ subst (λ u. Contains (pending ++ v ∷ []) u) (sym e) (Contains-push pending v)
      | inr ne ↦ absurd (let a = ap length (there_now w ne) in omega (arith, less, a))
    ];
    pending_in = λ w c. elim (Contains-push_cases pending v w c) [ inl g ↦ inl g | inr e ↦ inr (subst (λ u. Contains (v ∷ []) u) e (here v [])) ];
    less_left = λ n m few within.
        let g = i.grown more_there in
        let given : IsTrue (is_in g.0 ts) = ap (λ b. b || is_in g.0 ts) (sym g.1) ∙ sym (i.holds g.0) ∙ g.2 in
        let l = room_lt n m (has old) (has new) (kept_by old new extends) g.0 v (few g.0 given) (within v (here v [])) g.1 (ap (is_in g.0) here_now ∙ g.2) in
        let p = length_push pending v in
        omega (arith, l, p);
  }
    where
      more_there : 0 < length i.more
      more_there =
          let a = ap length here_now in
          let b = length-append (row old v) i.more in
          omega (arith, a, b, grew)

-- to some vertices, and then to one more
pub Offers-more : (ts vs : List ℕ) (v : ℕ) (old now new : List (List ℕ)) (p q r : List ℕ) → Offers ts vs old p now q → Offers ts (v ∷ []) now q new r → Offers ts (vs ++ v ∷ []) old p new r
Offers-more ts vs v old now new p q r a b = record {
  same_length = b.same_length ∙ a.same_length;
  extends = λ w.
      let e = a.extends w in
      let f = b.extends w in
      (e.0 ++ f.0, f.1 ∙ ap (λ xs. xs ++ f.0) e.1 ∙ append_assoc (row old w) e.0 f.0);
  found = λ t w h. elim (b.found t w h) [
    | inl g ↦ elim (a.found t w g) [ inl k ↦ inl k | inr k ↦ inr (k.0, Contains-append_left vs (v ∷ []) w k.1) ]
    | inr g ↦ inr (g.0, Contains-append_right vs (v ∷ []) w g.1)
  ];
  all = λ t w h c. elim (Contains-append_cases vs (v ∷ []) w c) [ inl g ↦ kept_by now new b.extends t w (a.all t w h g) | inr g ↦ b.all t w h g ];
  distinct = λ d. b.distinct (a.distinct d);
  still_pending = λ w c. b.still_pending w (a.still_pending w c);
  queued = λ w less. elim (cases_lt (length (row old w)) (length (row now w))) [
    | inl grew ↦ b.still_pending w (a.queued w grew)
    | inr past ↦ b.queued w (omega (arith, less, past))
  ];
  pending_in = λ w c. elim (b.pending_in w c) [
    | inl g ↦ elim (a.pending_in w g) [ inl k ↦ inl k | inr k ↦ inr (Contains-append_left vs (v ∷ []) w k) ]
    | inr g ↦ inr (Contains-append_right vs (v ∷ []) w g)
  ];
  less_left = λ n m few within.
      let x = a.less_left n m few (λ w c. within w (Contains-append_left vs (v ∷ []) w c)) in
      let y = b.less_left n m few (λ w c. within w (Contains-append_right vs (v ∷ []) w c)) in
      omega (arith, x, y);
}

-- one more, whether it was new or not
pub Inserts-step : (ts : List ℕ) (v t : ℕ) (old now new : List (List ℕ)) (flag : Bool) → v < length old → Inserts ts v old now → flag ≡ not (is_in t (row now v)) → new ≡ cond flag (set now v (row now v ++ t ∷ [])) now → Inserts (ts ++ t ∷ []) v old new
Inserts-step ts v t old now new flag lt i told is = elim (cases_Bool (is_in t (row now v))) [
  | inl there ↦ Inserts-again ts v t old now new lt i there (is ∙ ap (λ b. cond b (set now v (row now v ++ t ∷ [])) now) (told ∙ ap not there))
  | inr absent ↦ Inserts-new ts v t old now new lt i absent (is ∙ ap (λ b. cond b (set now v (row now v ++ t ∷ [])) now) (told ∙ ap not absent))
]

pub Inserts-length : (ts : List ℕ) (v : ℕ) (old new : List (List ℕ)) → Inserts ts v old new → length new ≡ length old
Inserts-length ts v old new i = ap length i.rows ∙ length-set old v (row old v ++ i.more)
