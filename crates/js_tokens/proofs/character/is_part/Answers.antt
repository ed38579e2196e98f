use Rattle.std.proofs.Common.{◌∙◌}
use Rattle.js_tokens.proofs.CharacterLemmas.{part_ascii}
use Rattle.js_tokens.proofs.character.is_part.Goals as goal

pub returns-then-c-lt128 : goal.returns-then-c-lt128
returns-then-c-lt128 c = c.is_ascii_part.ensures ∙ part_ascii c.args.c c.if-c-lt128.true
