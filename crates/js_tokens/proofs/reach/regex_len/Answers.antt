use Rattle.std.proofs.Common.{refl, sym, ◌∙◌, subst, ◌≡◌, ℕ, ◌+◌, if◌then◌else◌}
use Rattle.std.specs.Char.{len_utf8}
use Rattle.std.proofs.lemmas.Str.{IsCharBoundary-from_take}
use Rattle.js_tree.specs.Lexical.Regex as regex
use Rattle.js_tree.specs.declared.part.RegexPart.TheVariants as part
use Rattle.js_tokens.specs.Reading.{Sofar}
use Rattle.js_tokens.proofs.Machine.{begin, more, broken}
use Rattle.js_tokens.proofs.reach.regex_len.Goals as goal

pub char_at-c-requires-clause-boundary : goal.char_at-c-requires-clause-boundary
char_at-c-requires-clause-boundary c = IsCharBoundary-from_take c.args.text.now c.loop-n.n c.utf8.text c.loop-n.invariant.within c.loop-n.invariant.utf8

pub loop-n-init : goal.loop-n-init
loop-n-init c = begin regex.next regex.may_end part.Front part.Broken (λ _. refl) refl c.args.text.now

pub loop-n-preserved : goal.loop-n-preserved
loop-n-preserved c =
    let w = c.len_utf8-n.ensures.value in
    let kept : c.kept-last.result ≡ (if regex.may_end c.regex_next-part.result then c.loop-n.n + len_utf8 c.char_at-c.result else c.loop-n.last) =
    c.kept-last.ensures ∙ (λ i. if c.regex_may_end.ensures i then c.loop-n.n + w i else c.loop-n.last) in
    subst (λ (m : ℕ). Sofar regex.next regex.may_end part.Front c.args.text.now (c.loop-n.n + m) c.kept-last.result c.regex_next-part.result) (sym w)
    (more regex.next regex.may_end part.Front part.Broken (λ _. refl) refl c.args.text.now c.loop-n.n c.loop-n.last c.char_at-c.result c.loop-n.part c.regex_next-part.result c.kept-last.result c.loop-n.invariant c.char_at-c.ensures c.regex_next-part.ensures kept)

pub returns-in-Broken : goal.returns-in-Broken
returns-in-Broken c = broken regex.next regex.may_end part.Front part.Broken (λ _. refl) refl c.args.text.now c.loop-n.n c.loop-n.last c.char_at-c.result c.loop-n.part c.loop-n.invariant c.char_at-c.ensures (sym c.regex_next-part.ensures ∙ c.in-Broken.is)
