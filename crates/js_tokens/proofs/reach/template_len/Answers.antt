use Rattle.std.proofs.Common.{refl, sym, ap, ◌∙◌, ◌≡◌, ◌+◌, if◌then◌else◌, Bool}
use Rattle.js_tree.specs.Lexical.Template as template
use Rattle.js_tree.specs.declared.part.TemplatePart.TheVariants as part
use Rattle.js_tokens.proofs.Machine.{begin_bytes, more_bytes, broken_bytes}
use Rattle.js_tokens.proofs.reach.template_len.Goals as goal

pub loop-n-init : goal.loop-n-init
loop-n-init c = begin_bytes (template.next c.args.mark) template.may_end part.Front part.Broken (λ _. refl) refl c.args.bytes.now

pub loop-n-preserved : goal.loop-n-preserved
loop-n-preserved c =
    let kept : c.kept-last.result ≡ (if template.may_end c.template_next-part.result then c.loop-n.n + 1 else c.loop-n.last) =
    c.kept-last.ensures ∙ ap (λ (b : Bool). if b then c.loop-n.n + 1 else c.loop-n.last) c.template_may_end.ensures in
    more_bytes (template.next c.args.mark) template.may_end part.Front part.Broken (λ _. refl) refl c.args.bytes.now c.loop-n.n c.loop-n.last c.loop-n.part c.template_next-part.result c.kept-last.result c.loop-n.invariant c.loop-n-test.true c.template_next-part.ensures kept

pub returns-in-Broken : goal.returns-in-Broken
returns-in-Broken c = broken_bytes (template.next c.args.mark) template.may_end part.Front part.Broken (λ _. refl) refl c.args.bytes.now c.loop-n.n c.loop-n.last c.loop-n.part c.loop-n.invariant c.loop-n-test.true (sym c.template_next-part.ensures ∙ c.in-Broken.is)
