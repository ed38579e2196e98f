use Rattle.std.proofs.Common.{◌≡◌, ◌+◌, ◌<◌, ◌^◌, length}
use Rattle.npm_range.specs.Grammar.{past_spaces}
use Rattle.npm_range.proofs.stretch.Stretch.skip_spaces.Given as goal

abbrev pub invariant-loop-rest : goal.invariant-loop-rest
invariant-loop-rest l = record {
  same : past_spaces (record { at = l.self-inside.at; text = l.self-inside.text.now }) ≡ past_spaces l.fn.self;
  fits : l.self-inside.at + length l.self-inside.text.now < 2 ^ 64;
}

abbrev pub decreases-loop-rest : goal.decreases-loop-rest
decreases-loop-rest l = length l.self-inside.text.now
