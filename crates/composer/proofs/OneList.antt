-- There is one ascending list of given items.
use Rattle.std.proofs.Common.{◌≡◌, List, [], ◌∷◌, refl, sym, subst, ◌∙◌, inl, inr, rules}
use Rattle.std.specs.Prelude.{Contains}
use Rattle.std.specs.declared.cmp.Ordering.{Ordering}
use Rattle.std.specs.declared.cmp.Ordering.TheVariants.{Less, Equal, Greater}
use Rattle.std.specs.Cmp.{IsTotalOrder}
use Rattle.std.specs.Cmp.Rules.{comparing}
use Rattle.std.specs.Ordering.{ordering_reverse}
use Rattle.std.specs.List.{AllByRecursion}
use Rattle.std.specs.List.Sorted.{IsStrictlySortedBy}
use Rattle.jam_base.specs.declared.edge.Edge.{Edge}
use Rattle.jam_base.specs.Edges.{edge_order}
use Rattle.composer.proofs.OrderLemmas.{not_itself}
use Rattle.composer.proofs.Members.{none, cons_cases, here, there}
use Rattle.flow_rules.specs.Constraints.{ModuleConstraints}
use Rattle.composer.specs.declared.application.Link.{Link}
use Rattle.composer.specs.Edges.{IsEdgeList}

pub edge_total : IsTotalOrder edge_order
edge_total = search (comparing, rules) depth 12

opposite : (r : Ordering) → r ≡ Less → ordering_reverse r ≡ Less → ⊥
opposite Less e g = cc
opposite Equal e g = cc
opposite Greater e g = cc

module _ {X : Type 0} {R : X → X → Ordering} (o : IsTotalOrder R) where
  not_both : (x y : X) → R x y ≡ Less → R y x ≡ Less → ⊥
  not_both x y e g = opposite (R x y) e (sym (o.antisymm y x) ∙ g)

  less_later : (x : X) (xs : List X) → AllByRecursion (λ y. R x y ≡ Less) xs → (y : X) → Contains xs y → R x y ≡ Less
  less_later x [] h y c = absurd (none y c)
  less_later x (z ∷ xs) h y c = elim (cons_cases z xs y c) [ inl e ↦ subst (λ w. R x w ≡ Less) e h.0 | inr g ↦ less_later x xs h.1 y g ]

  pub one_list : (xs ys : List X) → IsStrictlySortedBy R xs → IsStrictlySortedBy R ys → ((x : X) → Contains xs x → Contains ys x) → ((x : X) → Contains ys x → Contains xs x) → xs ≡ ys
  unfolding IsStrictlySortedBy
  one_list [] [] s t f g = refl
  one_list [] (y ∷ ys) s t f g = absurd (none y (g y (here y ys)))
  one_list (x ∷ xs) [] s t f g = absurd (none x (f x (here x xs)))
  one_list (x ∷ xs) (y ∷ ys) s t f g =
      let head = same_head (f x (here x xs)) (g y (here y ys)) in
      let tail = one_list xs ys s.1 t.1 (λ z c. into_tail x y xs ys head s.0 z c (f z (there x xs z c))) (λ z c. into_tail y x ys xs (sym head) t.0 z c (g z (there y ys z c))) in
      λ i. head i ∷ tail i
    where
      same_head : Contains (y ∷ ys) x → Contains (x ∷ xs) y → x ≡ y
      same_head c d = elim (cons_cases y ys x c) [
        | inl e ↦ sym e
        | inr p ↦ elim (cons_cases x xs y d) [ inl e ↦ e | inr q ↦ absurd (not_both x y (less_later x xs s.0 y q) (less_later y ys t.0 x p)) ]
      ]

      into_tail : (x y : X) (xs ys : List X) → x ≡ y → AllByRecursion (λ z. R x z ≡ Less) xs → (z : X) → Contains xs z → Contains (y ∷ ys) z → Contains ys z
      into_tail x y xs ys e h z c d = elim (cons_cases y ys z d) [
        | inl k ↦ absurd (not_itself o x (subst (λ w. R x w ≡ Less) (sym (e ∙ k)) (less_later x xs h z c)))
        | inr k ↦ k
      ]

-- the call edges stand in at most one list
pub one_edge_list : (modules : List ModuleConstraints) (links : List Link) (xs ys : List Edge) → IsEdgeList modules links xs → IsEdgeList modules links ys → xs ≡ ys
one_edge_list modules links xs ys p q =
    one_list edge_total xs ys p.sorted q.sorted (λ e c. (q.edges_are e).1 ((p.edges_are e).0 c)) (λ e c. (p.edges_are e).1 ((q.edges_are e).0 c))
