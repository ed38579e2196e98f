use Rattle.js_tokens.specs.Ahead.{offset_of}
use Rattle.js_tokens.proofs.HeldLemmas.{none_for, no_token}
use Rattle.js_tokens.proofs.reader.next_cut.Goals as goal

pub returns-in-Err-clause-none : goal.returns-in-Err-clause-none
returns-in-Err-clause-none c = none_for c.args.goal c.args.lexer.now (offset_of c.in-Err.field-0) (no_token c.args.goal c.args.lexer.now c.in-Err.field-0 c.in-Err.ensures.fault)
