use Rattle.std.proofs.Common.{ℕ, List, ap, sym}
use Rattle.npm_range.proofs.Operators.{split_operator-equal}
use Rattle.npm_range.specs.declared.comparator.Operator.{Operator}
use Rattle.npm_range.proofs.comparator.split_operator.Goals as goal

pub returns-in-Some-strip_ascii-2-clause-operator : goal.returns-in-Some-strip_ascii-2-clause-operator
returns-in-Some-strip_ascii-2-clause-operator c =
    sym (ap (λ (x : Operator × List ℕ). x.0) (split_operator-equal c.args.piece.now _ c.in-Some-strip_ascii-2.ensures))

pub returns-in-Some-strip_ascii-2-clause-rest : goal.returns-in-Some-strip_ascii-2-clause-rest
returns-in-Some-strip_ascii-2-clause-rest c =
    sym (ap (λ (x : Operator × List ℕ). x.1) (split_operator-equal c.args.piece.now _ c.in-Some-strip_ascii-2.ensures))
