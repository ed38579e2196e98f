use Rattle.std.proofs.Common.{rules, of_calls, ◌≡◌, ℕ, ◌-◌, true, false, nat_le, slice_index, ap, sym, inl, inr, arith, leb-true, leb-false}
use Rattle.std.proofs.lemmas.Fn.{always_returns_same}
use Rattle.std.proofs.lemmas.Bool.{cases_lt}
use Rattle.std.proofs.lemmas.List.Sorted.{IsPartitionedBy-leb}
use Rattle.std.specs.List.Sorted.{IsPartitionPoint}
use Rattle.reach_path.proofs.NumberLemmas.{count_point}
use Rattle.reach_path.proofs.numbers.module_of.Goals as goal

pub overflow_sub-result : goal.overflow_sub-result
overflow_sub-result c =
    let p = λ (s : ℕ). nat_le s c.args.number in
    let point : IsPartitionPoint (λ y. p y ≡ true) (λ y. p y ≡ false) c.args.starts.now c.partition_point-behind.result
    = c.partition_point-behind.ensures.partitioned p (always_returns_same _ _ _ (λ a r f k. search (rules, of_calls))) (IsPartitionedBy-leb (λ (s : ℕ). s) c.args.starts.now c.args.number c.requires.rising) in
    elim (cases_lt 0 c.partition_point-behind.result) [
      | inl lt ↦ omega (arith, lt)
      | inr le ↦ absurd (omega (arith, c.requires.begin, leb-false (slice_index c.args.starts.now 0) c.args.number (point.1 0 0 le c.requires.some)))
    ]

pub returns-clause-module : goal.returns-clause-module
returns-clause-module c =
    let p = λ (s : ℕ). nat_le s c.args.number in
    let point = c.partition_point-behind.ensures.partitioned p (always_returns_same _ _ _ (λ a r f k. search (rules, of_calls))) (IsPartitionedBy-leb (λ (s : ℕ). s) c.args.starts.now c.args.number c.requires.rising) in
    ap (λ (k : ℕ). k - 1) (sym (count_point p c.args.starts.now c.partition_point-behind.result c.partition_point-behind.ensures.bound point))

pub returns-clause-begins : goal.returns-clause-begins
returns-clause-begins c =
    let p = λ (s : ℕ). nat_le s c.args.number in
    let point : IsPartitionPoint (λ y. p y ≡ true) (λ y. p y ≡ false) c.args.starts.now c.partition_point-behind.result
    = c.partition_point-behind.ensures.partitioned p (always_returns_same _ _ _ (λ a r f k. search (rules, of_calls))) (IsPartitionedBy-leb (λ (s : ℕ). s) c.args.starts.now c.args.number c.requires.rising) in
    elim (cases_lt 0 c.partition_point-behind.result) [
      | inl lt ↦ leb-true (slice_index c.args.starts.now (c.partition_point-behind.result - 1)) c.args.number (point.0 (c.partition_point-behind.result - 1) 0 (omega arith) (omega (arith, lt)))
      | inr le ↦ absurd (omega (arith, c.requires.begin, leb-false (slice_index c.args.starts.now 0) c.args.number (point.1 0 0 le c.requires.some)))
    ]
