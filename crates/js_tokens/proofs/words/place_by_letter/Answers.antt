use Rattle.std.proofs.Common.{ap, ◌∙◌, subst, ◌≡◌, ◌+◌, ◌-◌, ◌<◌, ◌≤◌, ℕ, take, drop}
use Rattle.js_tree.specs.Lexing.{place_in, words}
use Rattle.js_tokens.proofs.WordLemmas.{in_span, not_in_span}
use Rattle.js_tokens.proofs.words.place_by_letter.Goals as goal

pub returns-then-place-span : goal.returns-then-place-span
returns-then-place-span c =
    let s = c.words_of-span.result in
    let is : c.place_between-place.result ≡ place_in (take (s.to - s.from) (drop s.from words)) c.args.text.now = c.place_between-place.ensures in
    ap (λ (n : ℕ). s.from + n) is ∙ in_span c.args.letter c.args.text.now s.from s.to c.requires.first c.requires.some c.words_of-span.ensures.span (subst (λ (n : ℕ). n < s.to - s.from) is c.if-place-span.true)

pub returns : goal.returns
returns c =
    let s = c.words_of-span.result in
    let is : c.place_between-place.result ≡ place_in (take (s.to - s.from) (drop s.from words)) c.args.text.now = c.place_between-place.ensures in
    not_in_span c.args.letter c.args.text.now s.from s.to c.requires.first c.requires.some c.words_of-span.ensures.span (subst (λ (n : ℕ). s.to - s.from ≤ n) is c.if-place-span.false)
