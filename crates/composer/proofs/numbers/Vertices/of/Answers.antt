use Rattle.std.proofs.Common.{refl, sym, subst, arith}
use Rattle.std.specs.Prelude.{Contains}
use Rattle.std.proofs.lemmas.Cmp.{eq_by_cmp_equiv}
use Rattle.std.proofs.lemmas.List.Filters.{dedup_is}
use Rattle.std.proofs.lemmas.List.Kept.{Contains-dedup, IsStrictlySortedBy-dedup}
use Rattle.std.proofs.lemmas.List.Sorted.{Contains-permutation}
use Rattle.composer.proofs.NumberLemmas.{order_total, same_vertex}
use Rattle.composer.proofs.numbers.Vertices.of.Goals as goal

pub invariant_of-result : goal.invariant_of-result
invariant_of-result c = record {
  sorted = rw (dedup_is _ _ _ c.dedup.ensures.filtered) (IsStrictlySortedBy-dedup order_total (λ x y. refl) _ c.in_ok-sort.ensures.sorted);
  few = omega (arith, c.if-len-gt-MOST.false, c.len.ensures);
}

pub returns-clause-vertices : goal.returns-clause-vertices
returns-clause-vertices c = record {
  sorted = rw (dedup_is _ _ _ c.dedup.ensures.filtered) (IsStrictlySortedBy-dedup order_total (λ x y. refl) _ c.in_ok-sort.ensures.sorted);
  few = omega (arith, c.if-len-gt-MOST.false, c.len.ensures);
}

pub returns-clause-all : goal.returns-clause-all
returns-clause-all c v h = rw (dedup_is _ _ _ c.dedup.ensures.filtered)
    (Contains-dedup (eq_by_cmp_equiv order_total) same_vertex _ v (Contains-permutation _ _ v c.in_ok-sort.ensures.permutation (subst (λ xs. Contains xs v) (sym c.in_ok-sorted.ensures) h)))
