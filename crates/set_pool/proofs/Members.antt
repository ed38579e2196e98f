-- Whether a list has a value.
use Rattle.std.proofs.Common.{◌≡◌, ◌≢◌, ℕ, zero, suc, ◌+◌, ◌<◌, ◌⊎◌, inl, inr, Bool, true, false, ◌||◌, List, [], ◌∷◌, ◌++◌, length, get_or, set, map, refl, sym, ◌∙◌, ap, arith, get_or-set_same, get_or-set_other, length-set}
use Rattle.std.specs.Prelude.{nat_eq}
use Rattle.std.proofs.lemmas.Bool.{cases_eq, eq-eqb, eqb-true}
use Rattle.std.proofs.Math.Bool.{or-true}
use Rattle.std.proofs.lemmas.Bool.Decides.{eqb_tells}
use Rattle.std.proofs.lemmas.List.{get_or-map, length-map, same_lists}
use Rattle.std.proofs.lemmas.List.Folds.{list_any-append}
use Rattle.set_pool.specs.Sets.{is_in}

pub apart : {b : Bool} → b ≡ true → b ≡ false → ⊥
apart {b} h g = let e : true ≡ false = sym h ∙ g in cc

pub told : (b : Bool) → (b ≡ true) ⊎ (b ≡ false)
told true = inl refl
told false = inr refl

pub or_false : (b : Bool) → (b || false) ≡ b
or_false true = refl
or_false false = refl

pub is_in-append : (t x : ℕ) (xs : List ℕ) → is_in t (xs ++ x ∷ []) ≡ (is_in t xs || nat_eq x t)
is_in-append t x xs = list_any-append (λ y. nat_eq y t) xs (x ∷ []) ∙ ap (λ b. is_in t xs || b) (or_false (nat_eq x t))

pub is_in_both : (t : ℕ) (xs ys : List ℕ) → is_in t (xs ++ ys) ≡ (is_in t xs || is_in t ys)
is_in_both t xs ys = list_any-append (λ y. nat_eq y t) xs ys

-- where a value stands that the list has
pub record StandsAt (t : ℕ) (xs : List ℕ) : Type 0 where
  pub place : ℕ
  pub within : place < length xs
  pub there : get_or xs place 0 ≡ t

pub stands_at : (t : ℕ) (xs : List ℕ) → is_in t xs ≡ true → StandsAt t xs
stands_at t [] h = absurd (apart h refl)
stands_at t (x ∷ xs) h = elim (eqb_tells x t) [
  | inl e ↦ record { place = zero; within = omega arith; there = e.1 }
  | inr e ↦
      let later : is_in t xs ≡ true = rw e.0 at h in
      let r = stands_at t xs later in
      record { place = suc r.place; within = omega (arith, r.within); there = r.there }
]

-- one item of a list is another, which has no value that counts
pub is_in-set : (t x y : ℕ) (xs : List ℕ) (p : ℕ) → p < length xs → get_or xs p 0 ≡ y → t ≢ y → is_in t (set xs p x) ≡ (is_in t xs || nat_eq x t)
is_in-set t x y [] p lt is ne = absurd (omega (arith, lt))
is_in-set t x y (z ∷ xs) zero lt is ne = elim (eqb_tells z t) [
  | inl e ↦ absurd (ne (sym e.1 ∙ is))
  | inr e ↦ rw e.0 (swap (nat_eq x t) (is_in t xs))
]
  where
    swap : (a b : Bool) → (a || b) ≡ (b || a)
    swap true true = refl
    swap true false = refl
    swap false true = refl
    swap false false = refl
is_in-set t x y (z ∷ xs) (suc p) lt is ne = rw (is_in-set t x y xs p (omega (arith, lt)) is ne) (group (nat_eq z t) (is_in t xs) (nat_eq x t))
  where
    group : (a b c : Bool) → (a || (b || c)) ≡ ((a || b) || c)
    group true b c = refl
    group false b c = refl

pub same_read : {X : Type 0} (xs : List X) (i : ℕ) (d e : X) → i < length xs → get_or xs i d ≡ get_or xs i e
same_read [] i d e lt = absurd (omega (arith, lt))
same_read (x ∷ xs) zero d e lt = refl
same_read (x ∷ xs) (suc i) d e lt = same_read xs i d e (omega (arith, lt))

-- what a function makes of lists that are the same but for one item
pub one_changed : {X Y : Type 0} (f g : X → Y) (ys xs : List X) (s : ℕ) (v : Y) (d : X) → s < length xs → length ys ≡ length xs → f (get_or ys s d) ≡ v
    → ((r : ℕ) → r < length xs → r ≢ s → f (get_or ys r d) ≡ g (get_or xs r d)) → map f ys ≡ set (map g xs) s v
one_changed {X} {Y} f g ys xs s v d lt same_length here there = same_lists (map f ys) (set (map g xs) s v) lengths at
  where
    lengths : length (map f ys) ≡ length (set (map g xs) s v)
    lengths = length-map ys f ∙ same_length ∙ sym (length-map xs g) ∙ sym (length-set (map g xs) s v)

    at : (k : ℕ) (y : Y) → k < length (map f ys) → get_or (map f ys) k y ≡ get_or (set (map g xs) s v) k y
    at k y less =
        let e = length-map ys f in
        let inside : k < length ys = omega (arith, less, e) in
        let old : k < length xs = omega (arith, inside, same_length) in
        let l = length-map xs g in
        get_or-map f ys k d y inside
        ∙ (elim (cases_eq k s) [
          | inl is ↦ ap (λ i. f (get_or ys i d)) is ∙ here ∙ sym (get_or-set_same (map g xs) s v y (omega (arith, lt, l))) ∙ ap (λ i. get_or (set (map g xs) s v) i y) (sym is)
          | inr ne ↦ there k old ne ∙ sym (get_or-map g xs k d y old) ∙ sym (get_or-set_other (map g xs) s k v y ne)
        ])

pub in_at : (xs : List ℕ) (i : ℕ) → i < length xs → is_in (get_or xs i 0) xs ≡ true
in_at [] i lt = absurd (omega (arith, lt))
in_at (x ∷ xs) zero lt = rw (eq-eqb x x refl) refl
in_at (x ∷ xs) (suc i) lt = rw (in_at xs i (omega (arith, lt))) (or-true (nat_eq x (get_or xs i 0)))

-- what a test for 0 tells
pub zero_from : (n : ℕ) (b : Bool) → b ≡ nat_eq n 0 → b ≡ true → n ≡ 0
zero_from n b is yes_it_is = eqb-true n 0 (sym is ∙ yes_it_is)

pub some_from : (n : ℕ) (b : Bool) → b ≡ nat_eq n 0 → b ≡ false → 0 < n
some_from zero b is it_is_not = absurd (apart is it_is_not)
some_from (suc n) b is it_is_not = omega arith
