-- The places of items.
use Rattle.std.proofs.Common.{◌≡◌, ℕ, suc, ◌+◌, Bool, true, false, ◌||◌, ◌==◌, nat_lt, List, [], ◌∷◌, ◌++◌, length, refl, sym, ap, ◌∙◌, if◌then◌else◌, arith, Result, Ok, Err}
use Rattle.std.specs.List.{list_any}
use Rattle.std.specs.Result.{IfOk}
use Rattle.std.proofs.lemmas.Bool.Decides.{Decides-ltb}
use Rattle.flow_rules.specs.Numbered.{place_in}

-- the place of the first that is the number, counted from k on, or else what is given
abbrev pub place_from : ℕ → List ℕ → ℕ → ℕ → ℕ
place_from k [] q other = other
place_from k (x ∷ xs) q other = if x == q then k else place_from (k + 1) xs q other

choice : (b : Bool) (m n : ℕ) → (c : ℕ) → m ≡ n → (if b then c else m) ≡ (if b then c else n)
choice b m n c e = ap (λ k. if b then c else k) e

pub place_last : (k : ℕ) (xs : List ℕ) (x q other : ℕ) → place_from k (xs ++ x ∷ []) q other ≡ place_from k xs q (if x == q then k + length xs else other)
place_last k [] x q other = let e : k ≡ k + 0 = omega arith in ap (λ n. if x == q then n else other) e
place_last k (y ∷ xs) x q other =
    let e : (k + 1) + length xs ≡ k + length (y ∷ xs) = omega arith in
    choice (y == q) (place_from (k + 1) (xs ++ x ∷ []) q other) (place_from (k + 1) xs q (if x == q then k + length (y ∷ xs) else other)) k
    (place_last (k + 1) xs x q other ∙ ap (λ n. place_from (k + 1) xs q (if x == q then n else other)) e)

both : (b : Bool) (k m n : ℕ) → m ≡ (k + 1) + n → (if b then k else m) ≡ k + (if b then 0 else n + 1)
both true k m n e = omega arith
both false k m n e = omega (arith, e)

pub place_counted : (k : ℕ) (xs : List ℕ) (q : ℕ) → place_from k xs q (k + length xs) ≡ k + place_in xs q
place_counted k [] q = refl
place_counted k (x ∷ xs) q =
    let e : k + length (x ∷ xs) ≡ (k + 1) + length xs = omega arith in
    both (x == q) k (place_from (k + 1) xs q (k + length (x ∷ xs))) (place_in xs q) (ap (place_from (k + 1) xs q) e ∙ place_counted (k + 1) xs q)

-- the same from 0 on
pub place_is : (xs : List ℕ) (q : ℕ) → place_from 0 xs q (length xs) ≡ place_in xs q
place_is xs q =
    let a : length xs ≡ 0 + length xs = omega arith in
    let b : 0 + place_in xs q ≡ place_in xs q = omega arith in
    ap (place_from 0 xs q) a ∙ place_counted 0 xs q ∙ b

-- what has a place below the length is in the list
shift : (a b : ℕ) → nat_lt (a + 1) (suc b) ≡ nat_lt a b
shift a b = by (nat_lt a b) refl
  where
    by : (x : Bool) → nat_lt a b ≡ x → nat_lt (a + 1) (suc b) ≡ nat_lt a b
    by true e = let lt = (Decides-ltb a b).0 e in (Decides-ltb (a + 1) (suc b)).1 (omega (arith, lt)) ∙ sym e
    by false e = other (nat_lt (a + 1) (suc b)) refl
      where
        other : (y : Bool) → nat_lt (a + 1) (suc b) ≡ y → nat_lt (a + 1) (suc b) ≡ nat_lt a b
        other false f = f ∙ sym e
        other true f = let lt = (Decides-ltb (a + 1) (suc b)).0 f in let g = (Decides-ltb a b).1 (omega (arith, lt)) in absurd (let k : true ≡ false = sym g ∙ e in cc)

pub any_placed : (xs : List ℕ) (q : ℕ) → nat_lt (place_in xs q) (length xs) ≡ list_any (λ x. x == q) xs
any_placed [] q = refl
any_placed (x ∷ xs) q = by (x == q) (any_placed xs q)
  where
    by : (b : Bool) → nat_lt (place_in xs q) (length xs) ≡ list_any (λ y. y == q) xs → nat_lt (if b then 0 else place_in xs q + 1) (length (x ∷ xs)) ≡ (b || list_any (λ y. y == q) xs)
    by true e = (Decides-ltb 0 (length (x ∷ xs))).1 (omega arith)
    by false e = shift (place_in xs q) (length xs) ∙ e

-- what two clauses say of one value
pub both_ok : {T E : Type 0} (r : Result T E) (P Q R : T → Type 0) → ((x : T) → P x → Q x → R x) → IfOk r P → IfOk r Q → IfOk r R
both_ok (Ok x) P Q R f p q = f x p q
both_ok (Err e) P Q R f p q = tt
