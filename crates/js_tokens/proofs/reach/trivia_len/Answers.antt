use Rattle.std.proofs.Common.{refl, sym, ◌∙◌, subst, ◌≡◌, ℕ, ◌+◌, if◌then◌else◌}
use Rattle.std.specs.Char.{len_utf8}
use Rattle.std.proofs.lemmas.Str.{IsCharBoundary-from_take}
use Rattle.js_tree.specs.Lexical.{begin_trivia}
use Rattle.js_tree.specs.declared.part.TriviaPart.{TriviaPart}
use Rattle.js_tree.specs.Lexical.Trivia as trivia
use Rattle.js_tree.specs.declared.part.TriviaPart.TheVariants as part
use Rattle.js_tokens.specs.Reading.{Sofar}
use Rattle.js_tokens.proofs.Machine.{begin, more, broken}
use Rattle.js_tokens.proofs.reach.trivia_len.Goals as goal

pub char_at-c-requires-clause-boundary : goal.char_at-c-requires-clause-boundary
char_at-c-requires-clause-boundary c = IsCharBoundary-from_take c.args.text.now c.loop-n.n c.utf8.text c.loop-n.invariant.within c.loop-n.invariant.utf8

pub loop-n-init : goal.loop-n-init
loop-n-init c = subst (λ (p : TriviaPart). Sofar trivia.next trivia.may_end (begin_trivia c.args.at) c.args.text.now 0 0 p) (sym c.begun-part.ensures) (begin trivia.next trivia.may_end (begin_trivia c.args.at) part.Broken (λ _. refl) refl c.args.text.now)

pub loop-n-preserved : goal.loop-n-preserved
loop-n-preserved c =
    let w = c.len_utf8-n.ensures.value in
    let kept : c.kept-last.result ≡ (if trivia.may_end c.trivia_next-part.result then c.loop-n.n + len_utf8 c.char_at-c.result else c.loop-n.last) =
    c.kept-last.ensures ∙ (λ i. if c.trivia_may_end.ensures i then c.loop-n.n + w i else c.loop-n.last) in
    subst (λ (m : ℕ). Sofar trivia.next trivia.may_end (begin_trivia c.args.at) c.args.text.now (c.loop-n.n + m) c.kept-last.result c.trivia_next-part.result) (sym w)
    (more trivia.next trivia.may_end (begin_trivia c.args.at) part.Broken (λ _. refl) refl c.args.text.now c.loop-n.n c.loop-n.last c.char_at-c.result c.loop-n.part c.trivia_next-part.result c.kept-last.result c.loop-n.invariant c.char_at-c.ensures c.trivia_next-part.ensures kept)

pub returns-in-Broken : goal.returns-in-Broken
returns-in-Broken c = broken trivia.next trivia.may_end (begin_trivia c.args.at) part.Broken (λ _. refl) refl c.args.text.now c.loop-n.n c.loop-n.last c.char_at-c.result c.loop-n.part c.loop-n.invariant c.char_at-c.ensures (sym c.trivia_next-part.ensures ∙ c.in-Broken.is)
