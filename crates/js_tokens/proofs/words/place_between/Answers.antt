use Rattle.std.proofs.Common.{sym, ap, ◌∙◌, ◌-◌, ℕ, List, take, drop, Bor}
use Rattle.std.proofs.lemmas.List.{take-map, drop-map}
use Rattle.js_tree.specs.Lexing.{place_in}
use Rattle.js_tokens.proofs.words.place_between.Goals as goal

pub returns : goal.returns
returns c =
    let read : Bor (List ℕ) → List ℕ = λ word. word.now in
    let n = c.args.span.to - c.args.span.from in
    let list = c.args.list.now in
    c.place_in.ensures ∙ ap (λ (ws : List (List ℕ)). place_in ws c.args.text.now) (sym (take-map read n (drop c.args.span.from list)) ∙ ap (λ (ws : List (List ℕ)). take n ws) (sym (drop-map read c.args.span.from list)))
