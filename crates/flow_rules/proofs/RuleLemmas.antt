-- What ascends, and what is found in it.
use Rattle.std.proofs.Common.{◌≡◌, ◌≢◌, ◌↔◌, ℕ, suc, ◌+◌, ◌<◌, ◌≤◌, ◌⊎◌, inl, inr, Bool, true, false, IsTrue, not, List, [], ◌∷◌, length, get_or, refl, ap, sym, ◌∙◌, subst, arith}
use Rattle.std.specs.Prelude.{Contains}
use Rattle.std.specs.declared.cmp.Ordering.{Ordering}
use Rattle.std.specs.declared.cmp.Ordering.TheVariants.{Less, Equal, Greater}
use Rattle.std.specs.Cmp.{IsTotalOrder, on_total, then_total, nat_cmp_total}
use Rattle.std.specs.List.{AllByRecursion, IsAllAdjacentAnswer}
use Rattle.std.specs.List.Sorted.{IsStrictlySortedBy, IsSorted, IsNonDecreasingBy, IsPartitionPoint}
use Rattle.std.specs.Ordering.{ordering_then, ordering_index, ordering_reverse, is_lt, nat_cmp, eq_by_cmp}
use Rattle.std.proofs.lemmas.Cmp.{tied_itself}
use Rattle.std.proofs.lemmas.List.{get_or_default}
use Rattle.std.proofs.lemmas.List.Sorted.{searchable_from_sorted}
use Rattle.std.proofs.lemmas.Map.Keys.{Less-from_sorted}
use Rattle.std.specs.Str.{bytes_eq}
use Rattle.std.proofs.lemmas.Bool.Decides.{Decides-at, Decides-not}
use Rattle.std.proofs.lemmas.List.Elements.{Contains-get_or}
use Rattle.std.proofs.lemmas.Slice.Eq.{bytes_eq-Decides}
use Rattle.js_scopes.specs.declared.site.SiteInfo.{SiteInfo}
use Rattle.js_scopes.specs.Scopes.{site_order}
use Rattle.flow_rules.specs.declared.module.Require.{Require}
use Rattle.flow_rules.specs.declared.vertex.Vertex.{Vertex}
use Rattle.flow_rules.specs.Flows.{require_order}
use Rattle.flow_rules.specs.Vertices.{vertex_key, vertex_order}
use Rattle.flow_rules.proofs.Order.{both_equal, ranked_equal, same_key}

is_less : (o : Ordering) → is_lt o ≡ true → o ≡ Less
is_less Less e = refl
is_less Equal e = absurd (let k : false ≡ true = e in cc)
is_less Greater e = absurd (let k : false ≡ true = e in cc)

not_less : (a b : Ordering) → a ≡ ordering_reverse b → b ≡ Less → is_lt a ≡ false
not_less a b e h = ap is_lt (e ∙ ap ordering_reverse h)

no_order : (o : Ordering) → o ≡ Equal → (o ≡ Less) ⊎ (o ≡ Greater) → ⊥
no_order o e (inl h) = let k : Equal ≡ Less = sym e ∙ h in cc
no_order o e (inr h) = let k : Equal ≡ Greater = sym e ∙ h in cc

below_or_not : (k i : ℕ) → (k < i) ⊎ (i ≤ k)
below_or_not k i = grind arith

module _ {X : Type 0} (R : X → X → Ordering) (o : IsTotalOrder R) where
  pub below_all : (x y : X) (zs : List X) → R x y ≡ Less → AllByRecursion (λ z. R y z ≡ Less) zs → AllByRecursion (λ z. R x z ≡ Less) zs
  below_all x y [] h a = tt
  below_all x y (z ∷ zs) h a = (o.trans x y z h a.0, below_all x y zs h a.1)

  ascending_from_adjacent : (xs : List X) → ((k : ℕ) (d : X) → k + 1 < length xs → R (get_or xs k d) (get_or xs (k + 1) d) ≡ Less) → IsStrictlySortedBy R xs
  unfolding IsStrictlySortedBy
  ascending_from_adjacent [] h = tt
  ascending_from_adjacent (x ∷ []) h = (tt, tt)
  ascending_from_adjacent (x ∷ y ∷ zs) h =
      let first = h 0 x (omega arith) in
      let rest = ascending_from_adjacent (y ∷ zs) (λ k d lt. subst (λ n. R (get_or (y ∷ zs) k d) (get_or (x ∷ y ∷ zs) n d) ≡ Less) (next k) (h (suc k) d (omega (arith, lt)))) in
      ((first, below_all x y zs first rest.0), rest)
    where
      next : (k : ℕ) → suc k + 1 ≡ suc (k + 1)
      next k = omega arith

  -- the answer of a test of each item and the next
  pub ascends_by_test : (xs : List X) (r : Bool) → IsAllAdjacentAnswer (λ x y b. b ≡ is_lt (R x y)) xs r → IsTrue r ↔ IsStrictlySortedBy R xs
  ascends_by_test xs true h = (λ _. ascending_from_adjacent xs (λ k d lt. is_less (R (get_or xs k d) (get_or xs (k + 1) d)) (sym (h k d lt))), λ _. refl)
  ascends_by_test xs false h = (λ e. absurd (let k : false ≡ true = e in cc), λ s. absurd (out xs s h))
    where
      out : (ys : List X) → IsStrictlySortedBy R ys → (k : ℕ) × (k + 1 < length ys) × ((d : X) → false ≡ is_lt (R (get_or ys k d) (get_or ys (k + 1) d))) → ⊥
      out [] s (k, lt, f) = absurd (omega (arith, lt))
      out (y ∷ ys) s (k, lt, f) =
          let e : true ≡ false = sym (f y ∙ ap is_lt (Less-from_sorted R (y ∷ ys) k (k + 1) y s (omega arith) lt)) in
          cc

  sorted_weakly : (xs : List X) → IsStrictlySortedBy R xs → IsSorted R xs
  sorted_weakly xs s k d low lt =
      not_less (R (get_or xs (k + 1) d) (get_or xs k d)) (R (get_or xs k d) (get_or xs (k + 1) d)) (o.antisymm (get_or xs (k + 1) d) (get_or xs k d)) (Less-from_sorted R xs k (k + 1) d s (omega arith) lt)

  -- a binary search may ask for an item
  pub is_searchable : (xs : List X) (x : X) → IsStrictlySortedBy R xs → IsNonDecreasingBy (λ y. ordering_index (R y x)) xs
  is_searchable xs x s = searchable_from_sorted o (λ y. y) xs x (sorted_weakly xs s)

  -- it finds one that goes with it
  pub not_missed : (xs : List X) (x y : X) (i : ℕ) → Contains xs y → R y x ≡ Equal → IsPartitionPoint (λ z. R z x ≡ Less) (λ z. R z x ≡ Greater) xs i → ⊥
  not_missed xs x y i (k, lt, e) h p = no_order (R (get_or xs k y) x) (ap (λ z. R z x) e ∙ h) (side (below_or_not k i))
    where
      side : (k < i) ⊎ (i ≤ k) → (R (get_or xs k y) x ≡ Less) ⊎ (R (get_or xs k y) x ≡ Greater)
      side (inl l) = inl (p.0 k y (omega arith) l)
      side (inr l) = inr (p.1 k y l lt)

  -- two items that the order doesn't tell apart are one
  pub one_member : (xs : List X) (x y : X) → IsStrictlySortedBy R xs → Contains xs x → Contains xs y → R x y ≡ Equal → x ≡ y
  one_member xs x y s (j, jl, je) (k, kl, ke) h = places (below_or_not j k) (below_or_not k j)
    where
      at_k : get_or xs k x ≡ y
      at_k = get_or_default xs k x y kl ∙ ke

      at_j : get_or xs j y ≡ x
      at_j = get_or_default xs j y x jl ∙ je

      places : (j < k) ⊎ (k ≤ j) → (k < j) ⊎ (j ≤ k) → x ≡ y
      places (inl l) q = absurd (no_order (R x y) h (inl ((λ i. R (sym je i) (sym at_k i)) ∙ Less-from_sorted R xs j k x s l kl)))
      places (inr g) (inl l) =
          absurd (no_order (R x y) h (inr (o.antisymm x y ∙ ap ordering_reverse ((λ i. R (sym ke i) (sym at_j i)) ∙ Less-from_sorted R xs k j y s l jl))))
      places (inr g) (inr l) = let same : j ≡ k = omega (arith, g, l) in sym je ∙ ap (λ n. get_or xs n x) same ∙ at_k

-- sites go with the one of this offset and part
pub site_total : IsTotalOrder site_order
site_total = then_total (on_total (λ s. s.offset) nat_cmp_total) (on_total (λ s. s.part) nat_cmp_total)

pub site_parts : (s t : SiteInfo) → site_order s t ≡ Equal → (s.offset ≡ t.offset) × (s.part ≡ t.part)
site_parts s t e = let b = both_equal (nat_cmp s.offset t.offset) (nat_cmp s.part t.part) e in (ranked_equal s.offset t.offset b.0, ranked_equal s.part t.part b.1)

pub site_tied : (s t : SiteInfo) → s.offset ≡ t.offset → s.part ≡ t.part → site_order s t ≡ Equal
site_tied s t p q = (λ i. ordering_then (nat_cmp (p i) t.offset) (nat_cmp (q i) t.part)) ∙ tied_itself site_total t

-- the site that a search by offset and part asks for
abbrev pub probe : ℕ → ℕ → SiteInfo
probe offset part = record { offset = offset; part = part; holder = 0; args = 0 }

-- the site at the place that the search finds
pub found_site : (xs : List SiteInfo) (offset part k : ℕ) (d : SiteInfo) → k < length xs → ((e : SiteInfo) → site_order (get_or xs k e) (probe offset part) ≡ Equal) → Contains xs (get_or xs k d) × ((get_or xs k d).offset ≡ offset) × ((get_or xs k d).part ≡ part)
found_site xs offset part k d lt h = let p = site_parts (get_or xs k d) (probe offset part) (h d) in (Contains-get_or xs k d lt, p.0, p.1)

-- there is no other
pub only_site : (xs : List SiteInfo) (offset part : ℕ) (s t : SiteInfo) → IsStrictlySortedBy site_order xs → Contains xs s × (s.offset ≡ offset) × (s.part ≡ part) → Contains xs t × (t.offset ≡ offset) × (t.part ≡ part) → t ≡ s
only_site xs offset part s t sorted (m, p, q) (n, a, b) = one_member site_order site_total xs t s sorted n m (site_tied t s (a ∙ sym p) (b ∙ sym q))

-- requires go with the one of this offset
pub require_total : IsTotalOrder require_order
require_total = on_total (λ r. r.offset) nat_cmp_total

pub require_tied : (r s : Require) → r.offset ≡ s.offset → require_order r s ≡ Equal
require_tied r s e = ap (λ n. nat_cmp n s.offset) e ∙ tied_itself nat_cmp_total s.offset

-- vertices differ by their keys
pub differ_by_test : (u v : Vertex) (r : Bool) → r ≡ not (eq_by_cmp vertex_order u v) → IsTrue r ↔ (vertex_key u ≢ vertex_key v)
differ_by_test u v r e = Decides-at r (not (bytes_eq (vertex_key u) (vertex_key v))) (e ∙ ap not (same_key u v)) (Decides-not (bytes_eq (vertex_key u) (vertex_key v)) (bytes_eq-Decides (vertex_key u) (vertex_key v)))
