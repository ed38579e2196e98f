use Rattle.std.proofs.Common.{Some, subst, length, ◌+◌}
use Rattle.npm_range.specs.Grammar.{IsFront, Stretch}
use Rattle.npm_range.proofs.Alternatives.{IsFront-found}
use Rattle.npm_range.proofs.stretch.Stretch.split_alternative.Goals as goal

pub returns-in-Some : goal.returns-in-Some
returns-in-Some c =
    let found = c.in-Some.ensures.cases in
    subst (λ (s : Stretch). IsFront s (record { at = c.self.inside.at; text = c.in-Some.front.now })
    (Some (record { at = c.self.inside.at + length c.in-Some.front.now + 2; text = c.in-Some.rest.now })))
    c.self.view_is
    (IsFront-found c.self.inside.at found.0 found.1 c.self.inside.text.now _ _ found.2.0 found.2.1 found.3 found.4 found.6)
