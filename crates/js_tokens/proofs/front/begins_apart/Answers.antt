use Rattle.std.proofs.Common.{sym, ◌∙◌, arith}
use Rattle.std.proofs.Common.{◌||◌}
use Rattle.js_tree.specs.Lexical.Character.{is_start, is_digit}
use Rattle.js_tokens.proofs.FrontLemmas.{begins_none, begins_char}
use Rattle.js_tokens.proofs.front.begins_apart.Goals as goal

pub returns-then-at-text : goal.returns-then-at-text
returns-then-at-text c = sym (begins_none _ c.args.text.now c.args.at (omega arith))

pub returns : goal.returns
returns c = c.is_start_or_digit.ensures ∙ sym (begins_char (λ x. is_start x || is_digit x) c.args.text.now c.args.at c.char_at.result c.utf8.text c.requires.boundary c.char_at.ensures)
