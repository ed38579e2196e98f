use Rattle.std.proofs.Common.{drop, ap, ◌∙◌, subst, sym}
use Rattle.std.specs.Str.{IsUtf8, chars}
use Rattle.std.specs.Str.Iter.{chars_rest}
use Rattle.js_tree.proofs.ValueLemmas.{front_gone, front_utf8, back_gone, between_is}
use Rattle.js_tree.proofs.value.without_quotes.Goals as goal

pub returns : goal.returns
returns c =
    let whole : IsUtf8 (chars_rest c.chars-left.result) = subst IsUtf8 (sym c.chars-left.ensures.rest) c.utf8.text in
    let behind = front_utf8 chars_rest c.chars-left.result c.next.new.self c.next.result whole c.next.ensures.steps.0 in
    between_is (chars c.args.text.now) (chars (chars_rest c.next.new.self)) (chars c.as_str.result.now)
    (front_gone chars_rest c.chars-left.result c.next.new.self c.next.result whole c.next.ensures.steps.0 ∙ ap (λ xs. drop 1 (chars xs)) c.chars-left.ensures.rest)
    (ap chars c.as_str.ensures ∙ back_gone chars_rest c.next.new.self c.next_back.new.self c.next_back.result behind (subst IsUtf8 c.as_str.ensures c.as_str.utf8) c.next_back.ensures.steps)
