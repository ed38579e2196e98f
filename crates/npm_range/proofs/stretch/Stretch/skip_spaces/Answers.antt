use Rattle.std.proofs.Common.{◌≡◌, ◌∷◌, ◌+◌, sym, ap, ◌∙◌, arith, List, length, ℕ}
use Rattle.npm_range.specs.Grammar.{past_spaces}
use Rattle.npm_range.proofs.Pieces.{past_spaces-none, past_spaces-space}
use Rattle.npm_range.proofs.stretch.Stretch.skip_spaces.Goals as goal

pub loop-rest-preserved : goal.loop-rest-preserved
loop-rest-preserved c =
    let text : c.loop-rest.self-inside.text.now ≡ 32 ∷ c.in-Some.rest.now = c.in-Some.ensures in
    let count : length c.loop-rest.self-inside.text.now ≡ length c.in-Some.rest.now + 1 = rw text (omega arith) in
    record {
      same = sym (past_spaces-space c.loop-rest.self-inside.at c.in-Some.rest.now)
          ∙ sym (ap (λ (x : List ℕ). past_spaces (record { at = c.loop-rest.self-inside.at; text = x })) text)
          ∙ c.loop-rest.invariant.same;
      fits = omega arith;
    }

pub returns : goal.returns
returns c =
    sym (past_spaces-none c.loop-rest.self-inside.at c.loop-rest.self-inside.text.now c.in_default.ensures) ∙ c.loop-rest.invariant.same
