-- A walk through a table comes to each of its places.
use Rattle.std.proofs.Common.{◌≡◌, ◌≢◌, ℕ, zero, suc, ◌+◌, ◌-◌, ◌<◌, ◌≤◌, ◌⊎◌, inl, inr, cond, List, [], ◌∷◌, length, refl, sym, ◌∙◌, ap, false, arith}
use Rattle.std.specs.Prelude.{nat_eq}
use Rattle.std.proofs.lemmas.Bool.{cases_lt, eq-eqb, ne_eqb}
use Rattle.std.proofs.lemmas.List.Sums.{sum_by-cons}
use Rattle.set_pool.specs.Tables.{next, none, slot, taken, walk}

next_within : (n p : ℕ) → suc p < n → next n p ≡ suc p
next_within n p lt = rw (ne_eqb (suc p) n (λ e. omega (arith, lt, e))) refl

next_last : (n p : ℕ) → suc p ≡ n → next n p ≡ 0
next_last n p is = rw (eq-eqb (suc p) n is) refl

-- up to the last place
ascends : (n h d : ℕ) → h + d < n → walk n h d ≡ h + d
ascends n h zero lt = omega arith
ascends n h (suc d) lt =
    let before : walk n h d ≡ h + d = ascends n h d (omega (arith, lt)) in
    let last : suc (h + d) ≡ h + suc d = omega arith in
    ap (next n) before ∙ next_within n (h + d) (omega (arith, lt)) ∙ last

-- and from the last place to the first
comes_round : (n h k : ℕ) → h + suc k ≡ n → walk n h (suc k) ≡ 0
comes_round n h k is =
    let before : walk n h k ≡ h + k = ascends n h k (omega (arith, is)) in
    ap (next n) before ∙ next_last n (h + k) (omega (arith, is))

walk-add : (n h a b : ℕ) → walk n h (b + a) ≡ walk n (walk n h a) b
walk-add n h a zero = let e : zero + a ≡ a = omega arith in ap (walk n h) e
walk-add n h a (suc b) =
    let e : suc b + a ≡ suc (b + a) = omega arith in
    ap (walk n h) e ∙ ap (next n) (walk-add n h a b)

pub record Reaches (n h p : ℕ) : Type 0 where
  pub steps : ℕ
  pub few : steps < n
  pub ends : walk n h steps ≡ p

pub reaches : (n h p : ℕ) → h < n → p < n → Reaches n h p
reaches n h p below lt = elim (cases_lt p h) [
  | inl less ↦ record { steps = p + suc (n - suc h); few = omega (arith, less, below); ends = round }
  | inr more ↦ record { steps = p - h; few = omega (arith, lt); ends = straight more }
]
  where
    straight : h ≤ p → walk n h (p - h) ≡ p
    straight more =
        let e : h + (p - h) ≡ p = omega (arith, more) in
        ascends n h (p - h) (omega (arith, more, lt)) ∙ e

    round : walk n h (p + suc (n - suc h)) ≡ p
    round =
        let e : h + suc (n - suc h) ≡ n = omega (arith, below) in
        let z : 0 + p ≡ p = omega arith in
        walk-add n h (suc (n - suc h)) p
        ∙ ap (λ x. walk n x p) (comes_round n h (n - suc h) e)
        ∙ ascends n 0 p (omega (arith, lt))
        ∙ z

-- where all slots of a walk are taken, all slots are
pub all_taken : (table : List ℕ) (h : ℕ) → h < length table → ((e : ℕ) → e < length table → slot table (walk (length table) h e) ≢ none) → (p : ℕ) → p < length table → slot table p ≢ none
all_taken table h below full p lt is =
    let r = reaches (length table) h p below lt in
    full r.steps r.few (ap (slot table) r.ends ∙ is)

pub taken_all : (table : List ℕ) → ((p : ℕ) → p < length table → slot table p ≢ none) → taken table ≡ length table
taken_all [] full = refl
taken_all (x ∷ xs) full =
    let later : taken xs ≡ length xs = taken_all xs (λ p lt. full (suc p) (omega (arith, lt))) in
    let here : nat_eq x none ≡ false = ne_eqb x none (full zero (omega arith)) in
    let more : taken (x ∷ xs) ≡ cond (nat_eq x none) 0 1 + taken xs = sum_by-cons (λ y. cond (nat_eq y none) 0 1) x xs in
    let one : ◌≡◌ {A = ℕ} (cond (nat_eq x none) 0 1) 1 = ap (λ b. cond {A = ℕ} b 0 1) here in
    omega (arith, one, later)
