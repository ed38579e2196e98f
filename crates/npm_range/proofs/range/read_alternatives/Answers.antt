use Rattle.std.proofs.Common.{[], List, Some, None, sym, subst}
use Rattle.std.proofs.lemmas.List.{append-nil}
use Rattle.std.proofs.lemmas.Result.{err_from_is_err_and}
use Rattle.npm_range.specs.Conditions.{Condition}
use Rattle.npm_range.specs.Grammar.{EndsAlternatives, IsFirstBad, ReadsAlternative}
use Rattle.npm_range.proofs.Readings.{IfAt-weaker}
use Rattle.npm_range.proofs.range.read_alternatives.Goals as goal

pub returns-in_err-read_alternative-clause-bad : goal.returns-in_err-read_alternative-clause-bad
returns-in_err-read_alternative-clause-bad c =
    let p = err_from_is_err_and c.from_residual.result c.from_residual.ensures.1 in
    rw (p.1, p.2) (IfAt-weaker c.in_err-read_alternative.field-0.0
    (λ n. (before : List Condition) × ReadsAlternative c.split_alternative-alternative.result.0 before (Some n))
    (IsFirstBad c.args.text.now)
    (λ n h. (
      _,
      c.loop-left.invariant [] (Some n) (subst (λ s. EndsAlternatives s (Some n)) (sym c.in-Some.is)
          (c.split_alternative-alternative.result.0, c.split_alternative-alternative.result.1, h.0, c.split_alternative-alternative.ensures, h.1)),
    ))
    c.in_err-read_alternative.ensures.bad)

pub returns-clause-spelled : goal.returns-clause-spelled
returns-clause-spelled c =
    rw append-nil at (c.loop-left.invariant [] None (subst (λ s. EndsAlternatives s None) (sym c.in_default.is) tt))
