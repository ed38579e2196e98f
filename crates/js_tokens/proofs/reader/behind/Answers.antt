use Rattle.std.proofs.Common.{◌≡◌, arith}
use Rattle.js_tree.specs.Lexing.{Place}
use Rattle.js_tokens.proofs.HeldLemmas.{fits_at}
use Rattle.js_tokens.proofs.reader.behind.Goals as goal

pub overflow_cast-result : goal.overflow_cast-result
overflow_cast-result c =
    let at : ◌≡◌ {A = Place} (record { left = c.lexer.inside.left.now; at = c.lexer.inside.at }) c.args.lexer.now = c.lexer.view_is in
    omega (arith, (fits_at c.args.goal (record { left = c.lexer.inside.left.now; at = c.lexer.inside.at }) c.args.lexer.now c.args.next at c.requires c.lexer.invariant).0)

pub overflow_add-result : goal.overflow_add-result
overflow_add-result c =
    let at : ◌≡◌ {A = Place} (record { left = c.lexer.inside.left.now; at = c.lexer.inside.at }) c.args.lexer.now = c.lexer.view_is in
    omega (arith, (fits_at c.args.goal (record { left = c.lexer.inside.left.now; at = c.lexer.inside.at }) c.args.lexer.now c.args.next at c.requires c.lexer.invariant).0)

pub invariant_of-result : goal.invariant_of-result
invariant_of-result c =
    let at : ◌≡◌ {A = Place} (record { left = c.lexer.inside.left.now; at = c.lexer.inside.at }) c.args.lexer.now = c.lexer.view_is in
    (fits_at c.args.goal (record { left = c.lexer.inside.left.now; at = c.lexer.inside.at }) c.args.lexer.now c.args.next at c.requires c.lexer.invariant).1
