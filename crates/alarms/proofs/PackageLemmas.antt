-- Advisories by the names of their packages.
use Rattle.std.proofs.Common.{◌≡◌, ℕ, zero, suc, ◌+◌, ◌<◌, Bool, true, false, true≢false, not, ◌||◌, ◌==◌, List, [], ◌∷◌, ◌++◌, drop, length, get_or, cond, Option, Some, None, refl, sym, ap, subst, ◌∙◌, arith, inl, inr, append_assoc, if◌then◌else◌}
use Rattle.std.specs.Prelude.{Contains, slice_get, unwrap_or}
use Rattle.std.specs.Borrow.{Bor}
use Rattle.std.specs.BTreeMap.{BTreeMap, is_at}
use Rattle.std.specs.Cmp.Lexicographic.{nat_list_eq_equiv, slice_cmp}
use Rattle.std.specs.List.{list_any}
use Rattle.std.specs.Map.{lookup}
use Rattle.std.specs.Ordering.{nat_cmp}
use Rattle.std.specs.Str.{bytes_eq}
use Rattle.std.proofs.lemmas.List.{append-nil, drop_all, drop_more}
use Rattle.std.proofs.lemmas.List.Elements.{Contains-append_cases, Contains-append_right}
use Rattle.std.proofs.lemmas.Option.{none-some, same_Some, slice_get_within}
use Rattle.std.proofs.lemmas.Bool.Decides.{nat_tests}
use Rattle.std.proofs.lemmas.Slice.Eq.{bytes_eq-Decides}
use Rattle.composer.proofs.Members.{none}
use Rattle.advisory_reader.specs.declared.advisory.Advisory.{Advisory}
use Rattle.alarms.specs.Packages.{place_if, places_from, places_in, places_of}

-- an advisory on the package stands at each of the places
pub record IsThere (n : ℕ) (name : List ℕ) (advisories : List Advisory) (place : ℕ) : Type 0 where
  pub k : ℕ
  pub advisory : Advisory
  pub place_is : place ≡ n + k
  pub here : slice_get advisories k ≡ Some advisory

one_place : (n place : ℕ) → Contains (n ∷ []) place → place ≡ n
one_place n place (zero, lt, e) = sym e
one_place n place (suc k, lt, e) = absurd (omega (arith, lt))

module _ (n : ℕ) (name : List ℕ) (a : Advisory) (more : List Advisory) (place : ℕ) where
  later : IsThere (n + 1) name more place → IsThere n name (a ∷ more) place
  later h = record { k = suc h.k; advisory = h.advisory; place_is = omega (arith, h.place_is); here = h.here }

  here_or_later : (b : Bool) → Contains ((if b then n ∷ [] else []) ++ places_from (n + 1) name more) place → (Contains (places_from (n + 1) name more) place → IsThere (n + 1) name more place) → IsThere n name (a ∷ more) place
  here_or_later true h rest = elim (Contains-append_cases (n ∷ []) (places_from (n + 1) name more) place h) [
    | inl g ↦ let e = one_place n place g in record { k = zero; advisory = a; place_is = omega (arith, e); here = refl }
    | inr g ↦ later (rest g)
  ]
  here_or_later false h rest = later (rest h)

pub is_there : (n : ℕ) (name : List ℕ) (advisories : List Advisory) (place : ℕ) → Contains (places_from n name advisories) place → IsThere n name advisories place
is_there n name [] place h = absurd (none place h)
is_there n name (a ∷ more) place h = here_or_later n name a more place (bytes_eq name a.package) h (is_there (n + 1) name more place)

-- so they are within the list
pub place_within : (name : List ℕ) (advisories : List Advisory) (place : ℕ) → Contains (places_of advisories name) place → place < length advisories
place_within name advisories place h =
    let there = is_there 0 name advisories place h in
    omega (arith, slice_get_within advisories there.k there.advisory there.here, there.place_is)

-- each advisory on the package has its place among them
pub has_place : (n : ℕ) (name : List ℕ) (advisories : List Advisory) (k : ℕ) (a : Advisory) → slice_get advisories k ≡ Some a → bytes_eq name a.package ≡ true → Contains (places_from n name advisories) (n + k)
has_place n name [] k a here named = absurd (none-some a here)
has_place n name (b ∷ more) zero a here named =
    let same : b ≡ a = same_Some b a here in
    let test : true ≡ bytes_eq name b.package = sym (ap (λ (x : Advisory). bytes_eq name x.package) same ∙ named) in
    subst (λ t. Contains ((if t then n ∷ [] else []) ++ places_from (n + 1) name more) (n + zero)) test (0, omega arith, omega arith)
has_place n name (b ∷ more) (suc k) a here named =
    let e : n + 1 + k ≡ n + suc k = omega arith in
    subst (Contains (places_from n name (b ∷ more))) e (Contains-append_right (place_if name b.package n) (places_from (n + 1) name more) (n + 1 + k) (has_place (n + 1) name more k a here named))

-- ---- what is kept

-- what is kept under a name that is looked up
pub kept_none : (kept : BTreeMap (Bor (List ℕ)) (List ℕ)) (name : List ℕ) → kept.entries ≡ [] → places_in kept name ≡ []
kept_none kept name empty = ap (λ (es : List (Bor (List ℕ) × List ℕ)). unwrap_or (lookup (is_at (λ (k : Bor (List ℕ)). slice_cmp nat_cmp name k.now)) es) []) empty

pub chosen : (b : Bool) (here : List ℕ) (o : Option (List ℕ)) → unwrap_or (cond b (Some here) o) [] ≡ (if b then here else unwrap_or o [])
chosen true here o = refl
chosen false here o = refl

pub left_out : (b : Bool) (o : Option (List ℕ)) → unwrap_or (cond b None o) (let none : List ℕ = [] in none) ≡ (if b then [] else unwrap_or o [])
left_out true o = refl
left_out false o = refl

-- one more place is kept under its name
kept_if : (kept : BTreeMap (Bor (List ℕ)) (List ℕ)) (name «package» : List ℕ) (place : ℕ) (b : Bool) → (b ≡ true → «package» ≡ name) → (if b then places_in kept «package» ++ place ∷ [] else (if b then [] else places_in kept name)) ≡ places_in kept name ++ (if b then place ∷ [] else [])
kept_if kept name «package» place true same = ap (λ n. places_in kept n ++ place ∷ []) (same refl)
kept_if kept name «package» place false same = sym (append-nil (places_in kept name))

pub one_kept : (kept left new : BTreeMap (Bor (List ℕ)) (List ℕ)) (name «package» here : List ℕ) (place : ℕ) → here ≡ places_in kept «package» ++ place ∷ []
    → places_in left name ≡ (if bytes_eq «package» name then [] else places_in kept name) → places_in new name ≡ (if bytes_eq «package» name then here else places_in left name)
    → places_in new name ≡ places_in kept name ++ place_if name «package» place
one_kept kept left new name «package» here place here_is left_is new_is =
    let test : bytes_eq «package» name ≡ bytes_eq name «package» = nat_list_eq_equiv.symm «package» name in
    new_is ∙ (λ i. if bytes_eq «package» name then here_is i else left_is i) ∙ kept_if kept name «package» place (bytes_eq «package» name) (λ t. (bytes_eq-Decides «package» name).0 t)
    ∙ ap (λ b. places_in kept name ++ (if b then place ∷ [] else [])) test

-- a turn of the loop, and its end
pub kept_more : (advisories : List Advisory) (a : Advisory) (i : ℕ) (kept new name : List ℕ) → i < length advisories → a ≡ get_or advisories i a → kept ++ places_from i name (drop i advisories) ≡ places_of advisories name
    → new ≡ kept ++ place_if name a.package i → new ++ places_from (i + 1) name (drop (i + 1) advisories) ≡ places_of advisories name
kept_more advisories a i kept new name lt is was new_is =
    let front : List ℕ = place_if name a.package i in
    let parts : drop i advisories ≡ a ∷ drop (i + 1) advisories = drop_more advisories i a lt ∙ ap (λ x. x ∷ drop (i + 1) advisories) (sym is) in
    ap (λ xs. xs ++ places_from (i + 1) name (drop (i + 1) advisories)) new_is ∙ append_assoc kept front (places_from (i + 1) name (drop (i + 1) advisories))
    ∙ ap (λ rest. kept ++ places_from i name rest) (sym parts) ∙ was

pub kept_all : (advisories : List Advisory) (i : ℕ) (kept name : List ℕ) → i ≡ length advisories → kept ++ places_from i name (drop i advisories) ≡ places_of advisories name → kept ≡ places_of advisories name
kept_all advisories i kept name last was =
    let rest : drop i advisories ≡ [] = drop_all i advisories (omega (arith, last)) in
    sym (append-nil kept) ∙ ap (λ (left : List Advisory). kept ++ places_from i name left) (sym rest) ∙ was

-- there is a place exactly where an advisory is on the package
not_zero : (n : ℕ) → 0 < n → (n == 0) ≡ false
not_zero n lt = grind (arith, nat_tests)

any_more : (n : ℕ) (any b : Bool) (places : List ℕ) → any ≡ not (length places == 0) → (b || any) ≡ not (length ((if b then n ∷ [] else []) ++ places) == 0)
any_more n any true places is = sym (ap not (not_zero (length (n ∷ places)) (omega arith)))
any_more n any false places is = is

pub any_place : (n : ℕ) (name : List ℕ) (advisories : List Advisory) → list_any (λ a. bytes_eq name a.package) advisories ≡ not (length (places_from n name advisories) == 0)
any_place n name [] = refl
any_place n name (a ∷ more) = any_more n (list_any (λ (x : Advisory). bytes_eq name x.package) more) (bytes_eq name a.package) (places_from (n + 1) name more) (any_place (n + 1) name more)
