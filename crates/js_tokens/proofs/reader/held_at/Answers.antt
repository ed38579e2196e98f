use Rattle.std.proofs.Common.{ap, ◌∙◌}
use Rattle.js_tree.specs.TokenKinds.{kind_of}
use Rattle.js_tokens.proofs.HeldLemmas.{held_found, held_none}
use Rattle.js_tokens.proofs.reader.held_at.Goals as goal

pub returns-in-Ok : goal.returns-in-Ok
returns-in-Ok c =
    let found = c.in-Ok.ensures.found in
    held_found c.args.lexer.now (record { kind = c.kind_of-kind.result; next = c.in-Ok.next }) found.0 found.1 (c.kind_of-kind.ensures ∙ ap (kind_of c.in-Ok.next.raw.class) c.as_bytes.ensures.value)

pub returns-in-Err : goal.returns-in-Err
returns-in-Err c = held_none c.args.lexer.now c.nothing.result c.in-Err.fault c.in-Err.ensures.fault c.nothing.ensures.kind (c.nothing.ensures.start ∙ c.start_of_fault.ensures)
