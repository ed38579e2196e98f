use Rattle.std.proofs.Common.{refl, sym, ap, ◌∙◌, arith, subst, ◌≡◌, ℕ, ◌+◌, if◌then◌else◌, Bool}
use Rattle.std.specs.Char.{len_utf8}
use Rattle.std.proofs.lemmas.Str.{IsCharBoundary-from_take, IsCharBoundary-start}
use Rattle.js_tree.specs.Lexical.Name as name
use Rattle.js_tokens.specs.Reading.{Sofar}
use Rattle.js_tokens.proofs.Machine.{begin, more, broken}
use Rattle.js_tokens.proofs.reach.identifier_len.Goals as goal

pub char_at-first-requires-clause-boundary : goal.char_at-first-requires-clause-boundary
char_at-first-requires-clause-boundary c = IsCharBoundary-start c.args.text.now c.utf8.text

pub char_at-c-requires-clause-boundary : goal.char_at-c-requires-clause-boundary
char_at-c-requires-clause-boundary c = IsCharBoundary-from_take c.args.text.now c.loop-n.n c.utf8.text c.loop-n.invariant.within c.loop-n.invariant.utf8

pub returns-then-not-is_start : goal.returns-then-not-is_start
returns-then-not-is_start c =
    broken name.next name.may_end name.Front name.Broken (λ _. refl) refl c.args.text.now 0 0 c.char_at-first.result name.Front
    (begin name.next name.may_end name.Front name.Broken (λ _. refl) refl c.args.text.now) c.char_at-first.ensures
    (ap (λ (b : Bool). if b then name.Within else name.Broken) (sym c.is_start.ensures ∙ c.if-not-is_start.true))

pub loop-n-init : goal.loop-n-init
loop-n-init c =
    let sum : 0 + len_utf8 c.char_at-first.result ≡ c.len_utf8-n.result = omega (arith, c.len_utf8-n.ensures.value) in
    subst (λ (m : ℕ). Sofar name.next name.may_end name.Front c.args.text.now m m name.Within) sum
    (more name.next name.may_end name.Front name.Broken (λ _. refl) refl c.args.text.now 0 0 c.char_at-first.result name.Front name.Within (0 + len_utf8 c.char_at-first.result)
    (begin name.next name.may_end name.Front name.Broken (λ _. refl) refl c.args.text.now) c.char_at-first.ensures
    (ap (λ (b : Bool). if b then name.Within else name.Broken) (sym c.if-not-is_start.false ∙ c.is_start.ensures)) refl)

pub loop-n-preserved : goal.loop-n-preserved
loop-n-preserved c =
    subst (λ (m : ℕ). Sofar name.next name.may_end name.Front c.args.text.now (c.loop-n.n + m) (c.loop-n.n + m) name.Within) (sym c.len_utf8-n-in-loop-n.ensures.value)
    (more name.next name.may_end name.Front name.Broken (λ _. refl) refl c.args.text.now c.loop-n.n c.loop-n.n c.char_at-c.result name.Within name.Within (c.loop-n.n + len_utf8 c.char_at-c.result)
    c.loop-n.invariant c.char_at-c.ensures
    (ap (λ (b : Bool). if b then name.Within else name.Broken) (sym c.if-not-is_part.false ∙ c.is_part.ensures)) refl)

pub returns-then-not-is_part : goal.returns-then-not-is_part
returns-then-not-is_part c =
    broken name.next name.may_end name.Front name.Broken (λ _. refl) refl c.args.text.now c.loop-n.n c.loop-n.n c.char_at-c.result name.Within
    c.loop-n.invariant c.char_at-c.ensures
    (ap (λ (b : Bool). if b then name.Within else name.Broken) (sym c.is_part.ensures ∙ c.if-not-is_part.true))
