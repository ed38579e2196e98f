use Rattle.std.proofs.Common.{List, ℕ, Some, sym, ap, ◌∙◌}
use Rattle.std.specs.Str.{chars}
use Rattle.std.proofs.lemmas.Str.{encodes-chars, scalars-chars}
use Rattle.js_tree.specs.Lexical.Value.{between, value_in}
use Rattle.js_tree.proofs.ValueLemmas.{plain_value}
use Rattle.js_tree.proofs.value.string_value.Goals as goal

pub returns-in_ok-text : goal.returns-in_ok-text
returns-in_ok-text c =
    let inner = c.without_quotes-inner.result.now in
    let u = c.without_quotes-inner.utf8 in
    ap (λ (xs : List ℕ). Some xs) (c.in_ok-text.ensures ∙ sym (encodes-chars inner u))
    ∙ plain_value (chars inner) (scalars-chars inner u) (sym c.has_escape.ensures ∙ c.if-has_escape.false)
    ∙ ap value_in (c.without_quotes-inner.ensures ∙ ap (λ (xs : List ℕ). between (chars xs)) c.as_str.ensures)
