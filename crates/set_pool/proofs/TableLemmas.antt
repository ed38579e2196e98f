-- What a table has before and after a value is written.
use Rattle.std.proofs.Common.{◌≡◌, ◌≢◌, ℕ, zero, suc, ◌+◌, ◌<◌, ◌≤◌, ◌⊎◌, inl, inr, Bool, true, false, ◌||◌, cond, List, [], ◌∷◌, ◌++◌, length, get_or, set, replicate, refl, sym, ◌∙◌, ap, arith, get_or-set_same, get_or-set_other, length-set, length-append}
use Rattle.std.specs.Prelude.{nat_eq}
use Rattle.std.specs.List.{sum_by}
use Rattle.std.proofs.lemmas.Bool.{cases_eq, cases_order, eq-eqb, eqb-true, ne_eqb}
use Rattle.std.proofs.lemmas.List.{get_or-replicate, length-replicate}
use Rattle.std.proofs.lemmas.List.Folds.{sum_by-replicate}
use Rattle.std.proofs.lemmas.List.Sums.{sum_by-set}
use Rattle.set_pool.proofs.Members.{is_in-set, is_in_both, or_false, stands_at, told}
use Rattle.set_pool.specs.Sets.{is_in}
use Rattle.set_pool.specs.Tables.{IsProbed, IsSpot, IsTableOf, LeadsTo, Takes, home_of, none, slot, taken, walk}

-- a walk that meets a free slot before the value meets no such value
pub absent_on_way : (table : List ℕ) (t d : ℕ) → t < none → IsProbed table → slot table (walk (length table) (home_of (length table) t) d) ≡ none
    → ((e : ℕ) → e < d → slot table (walk (length table) (home_of (length table) t) e) ≢ t) → is_in t table ≡ false
absent_on_way table t d below probed free passed = elim (told (is_in t table)) [ inr e ↦ e | inl e ↦ absurd (meets e) ]
  where
    way : ℕ → ℕ
    way e = walk (length table) (home_of (length table) t) e

    cases : (q e : ℕ) → slot table q ≡ t → way e ≡ q → ((i : ℕ) → i < e → slot table (way i) ≢ none) → ⊥
    cases q e is ends full = elim (cases_order e d) [
      | inl same ↦
          let there : slot table (way d) ≡ t = ap (λ i. slot table (way i)) (sym same) ∙ ap (slot table) ends ∙ is in
          let large : t ≡ none = sym there ∙ free in
          omega (arith, large, below)
      | inr other ↦ elim other [ inl less ↦ passed e less (ap (slot table) ends ∙ is) | inr more ↦ full d more free ]
    ]

    meets : is_in t table ≡ true → ⊥
    meets e =
        let s = stands_at t table e in
        let l = probed s.place s.within (λ is. let large : t ≡ none = sym s.there ∙ is in omega (arith, large, below)) in
        cases s.place l.steps s.there (ap (λ x. walk (length table) (home_of (length table) x) l.steps) (sym s.there) ∙ l.ends)
        (λ i lt is. l.taken i lt (ap (λ x. slot table (walk (length table) (home_of (length table) x) i)) s.there ∙ is))

module _ (table : List ℕ) (t p : ℕ) (below : t < none) (within : p < length table) (free : slot table p ≡ none) where
  large : t ≢ none
  large is = omega (arith, is, below)

  still_taken : (q : ℕ) → slot table q ≢ none → slot (set table p t) q ≢ none
  still_taken q full is = elim (cases_eq q p) [
    | inl e ↦ full (ap (slot table) e ∙ free)
    | inr ne ↦ full (sym (get_or-set_other table p q t 0 ne) ∙ is)
  ]

  still_leads : (h q : ℕ) → LeadsTo table h q → LeadsTo (set table p t) h q
  still_leads h q l = record {
    steps = l.steps;
    ends = rw (length-set table p t) l.ends;
    taken = λ e lt. rw (length-set table p t) (still_taken (walk (length table) h e) (l.taken e lt));
  }

  pub probed_with : IsProbed table → LeadsTo table (home_of (length table) t) p → IsProbed (set table p t)
  probed_with probed way q lt full =
      let same_length : length (set table p t) ≡ length table = length-set table p t in
      elim (cases_eq q p) [
        | inl e ↦
            let is : slot (set table p t) q ≡ t = ap (slot (set table p t)) e ∙ get_or-set_same table p t 0 within in
            rw (is, same_length, e) (still_leads (home_of (length table) t) p way)
        | inr ne ↦
            let is : slot (set table p t) q ≡ slot table q = get_or-set_other table p q t 0 ne in
            let was : slot table q ≢ none = λ free. full (is ∙ free) in
            rw (is, same_length) (still_leads (home_of (length table) (slot table q)) q (probed q (omega (arith, lt, same_length)) was))
      ]

  pub taken_more : taken (set table p t) ≡ taken table + 1
  taken_more =
      let sums : taken (set table p t) + cond (nat_eq (slot table p) none) 0 1 ≡ taken table + cond (nat_eq t none) 0 1 = sum_by-set (λ x. cond (nat_eq x none) 0 1) table p t 0 within in
      let was : ◌≡◌ {A = ℕ} (cond (nat_eq (slot table p) none) 0 1) 0 = ap (λ b. cond {A = ℕ} b 0 1) (eq-eqb (slot table p) none free) in
      let now : ◌≡◌ {A = ℕ} (cond (nat_eq t none) 0 1) 1 = ap (λ b. cond {A = ℕ} b 0 1) (ne_eqb t none large) in
      omega (arith, sums, was, now)

-- a value comes to its free slot
pub takes_here : (table : List ℕ) (t p : ℕ) → t < none → IsSpot table t p → Takes (t ∷ []) table (set table p t)
takes_here table t p below spot = record {
  same_length = length-set table p t;
  probed = λ probed. probed_with table t p below spot.within spot.free probed spot.way;
  same = λ x lt.
      is_in-set x t none table p spot.within spot.free (λ e. omega (arith, e, lt))
      ∙ ap (λ b. is_in x table || b) (sym (or_false (nat_eq t x)));
  few = let more = taken_more table t p below spot.within spot.free in omega (arith, more);
}

-- a value is there before
pub takes_again : (table : List ℕ) (t : ℕ) → is_in t table ≡ true → Takes (t ∷ []) table table
takes_again table t there = record {
  same_length = refl;
  probed = λ probed. probed;
  same = λ x lt. with_it x (told (nat_eq t x));
  few = omega arith;
}
  where
    with_it : (x : ℕ) → (nat_eq t x ≡ true) ⊎ (nat_eq t x ≡ false) → is_in x table ≡ (is_in x table || is_in x (t ∷ []))
    with_it x (inl e) = let same : is_in x table ≡ true = ap (λ y. is_in y table) (sym (eqb-true t x e)) ∙ there in rw same refl
    with_it x (inr e) = rw e (sym (or_false (is_in x table)))

pub takes_none : (table : List ℕ) → Takes [] table table
takes_none table = record {
  same_length = refl;
  probed = λ probed. probed;
  same = λ x lt. sym (or_false (is_in x table));
  few = omega arith;
}

or_group : (a b c : Bool) → ((a || b) || c) ≡ (a || (b || c))
or_group true b c = refl
or_group false b c = refl

or_swap : (a b : Bool) → (a || b) ≡ (b || a)
or_swap true true = refl
or_swap true false = refl
or_swap false true = refl
or_swap false false = refl

pub takes_both : (xs ys table between new : List ℕ) → Takes xs table between → Takes ys between new → Takes (xs ++ ys) table new
takes_both xs ys table between new first second = record {
  same_length = second.same_length ∙ first.same_length;
  probed = λ probed. second.probed (first.probed probed);
  same = λ x lt.
      second.same x lt
      ∙ ap (λ b. b || is_in x ys) (first.same x lt)
      ∙ or_group (is_in x table) (is_in x xs) (is_in x ys)
      ∙ ap (λ b. is_in x table || b) (sym (is_in_both x xs ys));
  few = let e = length-append xs ys in let f = first.few in let g = second.few in omega (arith, e, f, g);
}

pub takes_swapped : (xs ys table new : List ℕ) → Takes (xs ++ ys) table new → Takes (ys ++ xs) table new
takes_swapped xs ys table new takes = record {
  same_length = takes.same_length;
  probed = takes.probed;
  same = λ x lt. takes.same x lt ∙ ap (λ b. is_in x table || b) (is_in_both x xs ys ∙ or_swap (is_in x xs) (is_in x ys) ∙ sym (is_in_both x ys xs));
  few = let e = length-append xs ys in let f = length-append ys xs in let g = takes.few in omega (arith, e, f, g);
}

-- a table of some values and the ones that came
pub table_with : (values ts table new : List ℕ) → IsTableOf values table → Takes ts table new → IsTableOf (values ++ ts) new
table_with values ts table new is takes = record {
  probed = takes.probed is.probed;
  same = λ x lt. takes.same x lt ∙ ap (λ b. b || is_in x ts) (is.same x lt) ∙ sym (is_in_both x values ts);
  few = let e = length-append values ts in let f = is.few in let g = takes.few in omega (arith, e, f, g);
}

-- a table with no value
pub fresh_table : (n : ℕ) → IsTableOf [] (replicate n none)
fresh_table n = record {
  probed = λ p lt full. absurd (full (get_or-replicate n p none 0 (let e = length-replicate n none in omega (arith, lt, e))));
  same = λ t lt. never n t (λ e. omega (arith, e, lt));
  few = let e = sum_by-replicate (λ x. cond (nat_eq x none) 0 1) n none in omega (arith, e);
}
  where
    never : (k t : ℕ) → t ≢ none → is_in t (replicate k none) ≡ false
    never zero t ne = refl
    never (suc k) t ne = rw (ne_eqb none t (λ e. ne (sym e))) (never k t ne)
