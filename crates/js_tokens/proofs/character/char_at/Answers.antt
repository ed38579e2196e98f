use Rattle.js_tokens.proofs.character.char_at.Goals as goal
use Rattle.js_tokens.proofs.Machine.{ascii_at}

pub returns-then-byte-lt128 : goal.returns-then-byte-lt128
returns-then-byte-lt128 c = ascii_at _ _ c.args.at c.as_bytes.ensures.value c.requires.within c.if-byte-lt128.true
