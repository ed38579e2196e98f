use Rattle.std.proofs.Common.{◌≡◌, ◌||◌, ◌&&◌, false, sym, ap, ◌∙◌, List, ℕ, nat_eq, codes}
use Rattle.std.specs.List.{starts_with}
use Rattle.js_tree.specs.Lexical.{is_barred}
use Rattle.js_tokens.proofs.TokenLemmas.{found_for, found_only, barred_from}
use Rattle.js_tokens.proofs.front.token_at.Goals as goal

pub returns-clause-only : goal.returns-clause-only
returns-clause-only c = found_only c.args.goal c.args.fresh c.args.text.now c.sorted_front.result c.sorted_front.ensures

pub returns-clause-found : goal.returns-clause-found
returns-clause-found c =
    let same = c.as_bytes-bytes.ensures.value in
    let no_comment : starts_with nat_eq c.args.text.now (codes "/*") ≡ false =
    ap (λ (xs : List ℕ). starts_with nat_eq xs (codes "/*")) (sym same) ∙ sym c.starts_with.ensures.value ∙ c.if-starts_with.false in
    let free : is_barred c.args.fresh c.args.text.now ≡ false =
    barred_from (starts_with nat_eq c.args.text.now (codes "/*")) (starts_with nat_eq c.args.text.now (codes "<!--")) (c.args.fresh && starts_with nat_eq c.args.text.now (codes "-->")) no_comment
    (ap (λ (xs : List ℕ). starts_with nat_eq xs (codes "<!--") || (c.args.fresh && starts_with nat_eq xs (codes "-->"))) (sym same) ∙ sym c.is_refused.ensures ∙ c.if-is_refused.false) in
    found_for c.args.goal c.args.fresh c.args.text.now c.sorted_front.result free no_comment c.sorted_front.ensures
