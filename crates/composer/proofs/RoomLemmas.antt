-- How many pairs of a value and a vertex are not yet in the rows.
use Rattle.std.proofs.Common.{◌≡◌, ℕ, zero, suc, ◌+◌, ◌<◌, ◌≤◌, inl, inr, Bool, true, false, cond, refl, subst, arith}
use Rattle.std.proofs.lemmas.Bool.{cases_eq}
use Rattle.composer.specs.Rows.{gaps, room}

cond_le : (a b : Bool) → (a ≡ true → b ≡ true) → cond b 0 1 ≤ cond a 0 1
cond_le true b h = rw (h refl) (omega arith)
cond_le false true h = omega arith
cond_le false false h = omega arith

gaps_le : (m : ℕ) (p q : ℕ → Bool) → ((t : ℕ) → p t ≡ true → q t ≡ true) → gaps m q ≤ gaps m p
gaps_le zero p q more = omega arith
gaps_le (suc m) p q more = omega (arith, cond_le (p m) (q m) (more m), gaps_le m p q more)

gaps_lt : (m : ℕ) (p q : ℕ → Bool) → ((t : ℕ) → p t ≡ true → q t ≡ true) → (t : ℕ) → t < m → p t ≡ false → q t ≡ true → gaps m q < gaps m p
gaps_lt zero p q more t lt absent present = absurd (omega arith)
gaps_lt (suc m) p q more t lt absent present = elim (cases_eq t m) [
  | inl e ↦ (let a : p m ≡ false = subst (λ i. p i ≡ false) e absent in let b : q m ≡ true = subst (λ i. q i ≡ true) e present in
      let c : cond (q m) 0 1 < cond (p m) 0 1 = rw (a, b) (omega arith) in omega (arith, gaps_le m p q more, c))
  | inr ne ↦ (let lt' : t < m = omega arith in omega (arith, cond_le (p m) (q m) (more m), gaps_lt m p q more t lt' absent present))
]

pub room_le : (n m : ℕ) (p q : ℕ → ℕ → Bool) → ((t v : ℕ) → p t v ≡ true → q t v ≡ true) → room n m q ≤ room n m p
room_le zero m p q more = omega arith
room_le (suc n) m p q more = omega (arith, gaps_le m (λ t. p t n) (λ t. q t n) (λ t. more t n), room_le n m p q more)

pub room_lt : (n m : ℕ) (p q : ℕ → ℕ → Bool) → ((t v : ℕ) → p t v ≡ true → q t v ≡ true) → (t v : ℕ) → t < m → v < n → p t v ≡ false → q t v ≡ true → room n m q < room n m p
room_lt zero m p q more t v lt in_range absent present = absurd (omega arith)
room_lt (suc n) m p q more t v lt in_range absent present = elim (cases_eq v n) [
  | inl e ↦ (let a : p t n ≡ false = subst (λ i. p t i ≡ false) e absent in let b : q t n ≡ true = subst (λ i. q t i ≡ true) e present in
      omega (arith, gaps_lt m (λ x. p x n) (λ x. q x n) (λ x. more x n) t lt a b, room_le n m p q more))
  | inr ne ↦ (let lt' : v < n = omega arith in omega (arith, gaps_le m (λ x. p x n) (λ x. q x n) (λ x. more x n), room_lt n m p q more t v lt lt' absent present))
]
