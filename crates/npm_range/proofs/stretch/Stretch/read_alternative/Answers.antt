use Rattle.std.proofs.Common.{[], List, Some, None}
use Rattle.std.proofs.lemmas.List.{append-nil}
use Rattle.std.proofs.lemmas.Result.{err_from_is_err_and}
use Rattle.npm_range.specs.Conditions.{Condition}
use Rattle.npm_range.specs.Grammar.{EndsConditions, ReadsAlternative}
use Rattle.npm_range.proofs.Readings.{IfAt-weaker}
use Rattle.npm_range.proofs.stretch.Stretch.read_alternative.Goals as goal

pub returns-in_err-comparator-clause-bad : goal.returns-in_err-comparator-clause-bad
returns-in_err-comparator-clause-bad c =
    let p = err_from_is_err_and c.from_residual.result c.from_residual.ensures.1 in
    rw (p.1, p.2) (IfAt-weaker c.in_err-comparator.field-0.0 (λ n. EndsConditions c.loop-comparators.self (Some n))
    (λ n. (before : List Condition) × ReadsAlternative c.args.self before (Some n))
    (λ n h. (_, c.loop-comparators.invariant [] (Some n) h))
    c.in_err-comparator.ensures.bad)

pub returns-clause-read : goal.returns-clause-read
returns-clause-read c = rw append-nil at (c.loop-comparators.invariant [] None (rw c.in_default.is at c.in_ok-comparator.ensures.read))
