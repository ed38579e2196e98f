use Rattle.std.proofs.Common.{◌≡◌, ◌+◌, length, map}
use Rattle.js_tree.specs.Lexing.{place_in}
use Rattle.js_tokens.proofs.words.place_in.Given as goal

abbrev pub invariant-words : goal.invariant-words
invariant-words l = record {
  place : l.place + place_in (map (λ word. word.now) l.list) l.text ≡ place_in (map (λ word. word.now) l.initial.list) l.text;
  left : l.place + length l.list ≡ length l.initial.list;
}

abbrev pub decreases-words : goal.decreases-words
decreases-words l = length l.list
