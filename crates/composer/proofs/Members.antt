-- What is in a list.
use Rattle.std.proofs.Common.{◌≡◌, zero, suc, ◌⊎◌, inl, inr, List, [], ◌∷◌, map, refl, sym, subst, arith}
use Rattle.std.specs.Prelude.{Contains}
use Rattle.std.specs.List.{flat_map}
use Rattle.std.proofs.lemmas.List.Elements.{Contains-append_cases, Contains-append_left, Contains-append_right}

pub none : {X : Type 0} (x : X) → Contains [] x → ⊥
none x h = omega (arith, h.1)

pub here : {X : Type 0} (x : X) (xs : List X) → Contains (x ∷ xs) x
here x xs = (0, omega arith, refl)

pub there : {X : Type 0} (y : X) (xs : List X) (x : X) → Contains xs x → Contains (y ∷ xs) x
there y xs x h = (suc h.0, omega (arith, h.1), h.2)

pub cons_cases : {X : Type 0} (y : X) (xs : List X) (x : X) → Contains (y ∷ xs) x → (y ≡ x) ⊎ Contains xs x
cons_cases y xs x (zero, lt, e) = inl e
cons_cases y xs x (suc k, lt, e) = inr (k, omega (arith, lt), e)

pub only : {X : Type 0} (y x : X) → Contains (y ∷ []) x → y ≡ x
only y x h = elim (cons_cases y [] x h) [ inl e ↦ e | inr g ↦ absurd (none x g) ]

pub from_flat_map : {X Y : Type 0} (f : X → List Y) (xs : List X) (y : Y) → Contains (flat_map f xs) y → (x : X) × Contains xs x × Contains (f x) y
from_flat_map f [] y h = absurd (none y h)
from_flat_map f (x ∷ xs) y h = elim (Contains-append_cases (f x) (flat_map f xs) y h) [
  | inl g ↦ (x, here x xs, g)
  | inr g ↦ (let p = from_flat_map f xs y g in (p.0, there x xs p.0 p.1, p.2))
]

pub into_flat_map : {X Y : Type 0} (f : X → List Y) (xs : List X) (x : X) (y : Y) → Contains xs x → Contains (f x) y → Contains (flat_map f xs) y
into_flat_map f [] x y h g = absurd (none x h)
into_flat_map f (z ∷ xs) x y (zero, lt, e) g = Contains-append_left (f z) (flat_map f xs) y (subst (λ w. Contains (f w) y) (sym e) g)
into_flat_map f (z ∷ xs) x y (suc k, lt, e) g = Contains-append_right (f z) (flat_map f xs) y (into_flat_map f xs x y (k, omega (arith, lt), e) g)

pub from_map : {X Y : Type 0} (f : X → Y) (xs : List X) (y : Y) → Contains (map f xs) y → (x : X) × Contains xs x × (f x ≡ y)
from_map f [] y h = absurd (none y h)
from_map f (x ∷ xs) y h = elim (cons_cases (f x) (map f xs) y h) [
  | inl e ↦ (x, here x xs, e)
  | inr g ↦ (let p = from_map f xs y g in (p.0, there x xs p.0 p.1, p.2))
]

pub into_map : {X Y : Type 0} (f : X → Y) (xs : List X) (x : X) → Contains xs x → Contains (map f xs) (f x)
into_map f [] x h = absurd (none x h)
into_map f (z ∷ xs) x (zero, lt, e) = subst (λ w. Contains (f z ∷ map f xs) (f w)) e (here (f z) (map f xs))
into_map f (z ∷ xs) x (suc k, lt, e) = there (f z) (map f xs) (f x) (into_map f xs x (k, omega (arith, lt), e))
