use Rattle.std.proofs.Common.{◌∙◌}
use Rattle.js_tokens.proofs.CharacterLemmas.{start_ascii}
use Rattle.js_tokens.proofs.character.is_start.Goals as goal

pub returns-then-c-lt128 : goal.returns-then-c-lt128
returns-then-c-lt128 c = c.is_ascii_start.ensures ∙ start_ascii c.args.c c.if-c-lt128.true
