-- What rows hold.
use Rattle.std.proofs.Common.{◌≡◌, ◌≢◌, ℕ, zero, suc, ◌<◌, ◌⊎◌, inl, inr, Bool, true, false, ◌||◌, ◌&&◌, List, [], ◌∷◌, length, set, replicate, refl, sym, ◌∙◌, subst, arith, get_or-set_same, get_or-set_other}
use Rattle.std.specs.Prelude.{Contains, IsTrue, nat_eq}
use Rattle.std.proofs.lemmas.Bool.{eqb-true, eq-eqb, or_cases}
use Rattle.std.proofs.Math.Bool.{or-true}
use Rattle.composer.proofs.Members.{none, here, there, cons_cases}
use Rattle.composer.specs.Rows.{row, is_in, Holds}

pub apart : {b : Bool} → b ≡ true → b ≡ false → ⊥
apart {b} h g = let e : true ≡ false = sym h ∙ g in cc

-- a value that is in a row stands in its list, and the other way round
pub member_from_in : (t : ℕ) (xs : List ℕ) → IsTrue (is_in t xs) → Contains xs t
member_from_in t [] h = absurd (apart h refl)
member_from_in t (x ∷ xs) h = elim (or_cases (nat_eq x t) (is_in t xs) h) [
  | inl e ↦ subst (λ y. Contains (x ∷ xs) y) (eqb-true x t e) (here x xs)
  | inr g ↦ there x xs t (member_from_in t xs g)
]

pub in_from_member : (t : ℕ) (xs : List ℕ) → Contains xs t → IsTrue (is_in t xs)
in_from_member t [] h = absurd (none t h)
in_from_member t (x ∷ xs) h = elim (cons_cases x xs t h) [
  | inl e ↦ rw (eq-eqb x t e) refl
  | inr g ↦ rw (in_from_member t xs g) (or-true _)
]

-- a row among others
pub row-set_same : (s : List (List ℕ)) (v : ℕ) (r : List ℕ) → v < length s → row (set s v r) v ≡ r
row-set_same s v r h = get_or-set_same s v r [] h

pub row-set_other : (s : List (List ℕ)) (v w : ℕ) (r : List ℕ) → w ≢ v → row (set s v r) w ≡ row s w
row-set_other s v w r h = get_or-set_other s v w r [] h

pub row_replicate : (n v : ℕ) → row (replicate n []) v ≡ []
row_replicate zero v = refl
row_replicate (suc n) zero = refl
row_replicate (suc n) (suc v) = row_replicate n v

-- a row within the rows
pub in_range : (rows : List (List ℕ)) (t v : ℕ) → Holds rows t v → v < length rows
in_range [] t v h = absurd (apart h refl)
in_range (r ∷ rows) t zero h = omega arith
in_range (r ∷ rows) t (suc v) h = let i = in_range rows t v h in omega (arith, i)
