-- A function has one path at most.
use Rattle.std.proofs.Common.{◌≡◌, ◌≢◌, ℕ, inl, inr, List, [], ◌∷◌, length, reverse, refl, sym, ◌∙◌, ap, subst, arith}
use Rattle.std.specs.declared.cmp.Ordering.{Ordering}
use Rattle.std.specs.declared.cmp.Ordering.TheVariants.{Equal, Greater}
use Rattle.std.specs.Cmp.{nat_cmp_is}
use Rattle.std.specs.Ordering.{nat_cmp, ordering_then}
use Rattle.std.proofs.lemmas.Bool.{cases_order}
use Rattle.std.proofs.lemmas.List.{length-reverse, reverse-reverse}
use Rattle.jam_base.specs.declared.edge.Edge.{Edge}
use Rattle.jam_base.specs.declared.edge.FunctionRef.{FunctionRef}
use Rattle.reach_path.specs.Levels.{IsLastEdge, IsPath, IsWayBack, path_order}

-- of two numbers neither of which goes behind the other
no_greater : (x y : ℕ) → nat_cmp x y ≢ Greater → nat_cmp y x ≢ Greater → x ≡ y
no_greater x y h k = elim (cases_order x y) [
  | inl e ↦ e
  | inr (inl less) ↦ absurd (k (sym (nat_cmp_is y x Greater less)))
  | inr (inr more) ↦ absurd (h (sym (nat_cmp_is x y Greater more)))
]

-- the same where more is compared behind them
first_same : (x y : ℕ) (a b : Ordering) → ordering_then (nat_cmp x y) a ≢ Greater → ordering_then (nat_cmp y x) b ≢ Greater → (x ≡ y) × (a ≢ Greater) × (b ≢ Greater)
first_same x y a b h k = elim (cases_order x y) [
  | inl e ↦ (e, λ g. h (ap (λ o. ordering_then o a) (sym (nat_cmp_is x y Equal e)) ∙ g), λ g. k (ap (λ o. ordering_then o b) (sym (nat_cmp_is y x Equal (sym e))) ∙ g))
  | inr (inl less) ↦ absurd (k (ap (λ o. ordering_then o b) (sym (nat_cmp_is y x Greater less))))
  | inr (inr more) ↦ absurd (h (ap (λ o. ordering_then o a) (sym (nat_cmp_is x y Greater more))))
]

one_least : (a b : Edge) → path_order a b ≢ Greater → path_order b a ≢ Greater → a.callee ≡ b.callee → a ≡ b
one_least a b h k callee =
    let m = first_same a.caller.module b.caller.module _ _ h k in
    let o = first_same a.offset b.offset _ _ m.1 m.2 in
    let f = no_greater a.caller.function b.caller.function o.1 o.2 in
    λ i. record { caller = record { «module» = m.0 i; function = f i }; offset = o.0 i; callee = callee i }

one_way : (edges : List Edge) (entry : ℕ) (f : FunctionRef) (xs ys : List Edge) → length xs ≡ length ys → IsWayBack edges entry f xs → IsWayBack edges entry f ys → xs ≡ ys
one_way edges entry f [] [] same p q = refl
one_way edges entry f [] (y ∷ ys) same p q = absurd (omega (arith, same))
one_way edges entry f (x ∷ xs) [] same p q = absurd (omega (arith, same))
one_way edges entry f (x ∷ xs) (y ∷ ys) same p q =
    let rest : length ys ≡ length xs = omega (arith, same) in
    let last : IsLastEdge edges entry f (length xs) y = subst (λ k. IsLastEdge edges entry f k y) rest q.0 in
    let one = one_least x y (p.0.least y last.there last.callee last.nearer) (last.least x p.0.there p.0.callee p.0.nearer) (p.0.callee ∙ sym last.callee) in
    let behind = one_way edges entry x.caller xs ys (sym rest) p.1 (subst (λ (e : Edge). IsWayBack edges entry e.caller ys) (sym one) q.1) in
    λ i. one i ∷ behind i

pub one_path : (edges : List Edge) (entry : ℕ) (f : FunctionRef) (xs ys : List Edge) → IsPath edges entry f xs → IsPath edges entry f ys → xs ≡ ys
one_path edges entry f xs ys p q =
    let same : length xs ≡ length ys = omega (arith, p.level.least (length ys) q.level.walk, q.level.least (length xs) p.level.walk) in
    let back = one_way edges entry f (reverse xs) (reverse ys) (length-reverse xs ∙ same ∙ sym (length-reverse ys)) p.from_end q.from_end in
    sym (reverse-reverse xs) ∙ ap reverse back ∙ reverse-reverse ys
