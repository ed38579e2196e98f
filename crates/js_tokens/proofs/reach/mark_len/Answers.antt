use Rattle.std.proofs.Common.{refl, sym, ◌∙◌, arith, ◌+◌}
use Rattle.js_tokens.specs.Marks as marks
use Rattle.js_tokens.specs.declared.mark.MarkPart.TheVariants as part
use Rattle.js_tokens.proofs.Machine.{begin_bytes, more_bytes, broken_bytes}
use Rattle.js_tokens.proofs.MarkLemmas.{grown_by, placed_on, done_reached}
use Rattle.js_tokens.proofs.reach.mark_len.Goals as goal

pub loop-n-init : goal.loop-n-init
loop-n-init c = record {
  sofar = begin_bytes marks.next marks.may_end part.Front part.Broken (λ _. refl) refl c.args.bytes.now;
  text = refl;
  placed = λ h. absurd (omega arith);
}

pub loop-n-preserved : goal.loop-n-preserved
loop-n-preserved c =
    let led = c.mark_next-part.ensures in
    let grown = grown_by c.args.bytes.now c.loop-n.n c.loop-n.part c.mark_next-part.result c.loop-n-test.true c.loop-n.invariant.text led c.in_default.not-Broken in
    record {
      sofar = more_bytes marks.next marks.may_end part.Front part.Broken (λ _. refl) refl c.args.bytes.now c.loop-n.n c.loop-n.last.len c.loop-n.part c.mark_next-part.result c.kept_mark-last.result.len
          c.loop-n.invariant.sofar c.loop-n-test.true led (placed_on c.mark_next-part.result (c.loop-n.n + 1) c.loop-n.last c.kept_mark-last.result c.kept_mark-last.ensures).0;
      text = grown;
      placed = λ some. (placed_on c.mark_next-part.result (c.loop-n.n + 1) c.loop-n.last c.kept_mark-last.result c.kept_mark-last.ensures).1 c.args.bytes.now grown c.loop-n.invariant.placed some;
    }

pub returns-then-mark_is_done : goal.returns-then-mark_is_done
returns-then-mark_is_done c =
    let led = c.mark_next-part.ensures in
    let grown = grown_by c.args.bytes.now c.loop-n.n c.loop-n.part c.mark_next-part.result c.loop-n-test.true c.loop-n.invariant.text led c.in_default.not-Broken in
    let sofar = more_bytes marks.next marks.may_end part.Front part.Broken (λ _. refl) refl c.args.bytes.now c.loop-n.n c.loop-n.last.len c.loop-n.part c.mark_next-part.result c.kept_mark-last.result.len
    c.loop-n.invariant.sofar c.loop-n-test.true led (placed_on c.mark_next-part.result (c.loop-n.n + 1) c.loop-n.last c.kept_mark-last.result c.kept_mark-last.ensures).0 in
    record {
      reached = done_reached c.args.bytes.now (c.loop-n.n + 1) c.kept_mark-last.result.len c.mark_next-part.result sofar (sym c.mark_is_done.ensures ∙ c.if-mark_is_done.true);
      placed = λ some. (placed_on c.mark_next-part.result (c.loop-n.n + 1) c.loop-n.last c.kept_mark-last.result c.kept_mark-last.ensures).1 c.args.bytes.now grown c.loop-n.invariant.placed some;
    }

pub returns-in-Broken-clause-reached : goal.returns-in-Broken-clause-reached
returns-in-Broken-clause-reached c =
    broken_bytes marks.next marks.may_end part.Front part.Broken (λ _. refl) refl c.args.bytes.now c.loop-n.n c.loop-n.last.len c.loop-n.part c.loop-n.invariant.sofar c.loop-n-test.true (sym c.mark_next-part.ensures ∙ c.in-Broken.is)
