use Rattle.std.proofs.Common.{◌++◌, ◌∷◌, [], ℕ, List, sym, ap, ◌∙◌, append_assoc, map-id}
use Rattle.std.specs.Str.{chars}
use Rattle.std.proofs.lemmas.List.Sums.{fold-append}
use Rattle.std.proofs.lemmas.Iterator.{YieldsList-from_chars}
use Rattle.std.proofs.lemmas.Iterator.Consumers.{YieldsList-end}
use Rattle.js_tree.specs.declared.escape.ValuePart.{ValuePart}
use Rattle.js_tree.specs.declared.escape.ValuePart.TheVariants as part
use Rattle.js_tree.specs.declared.escape.ValueStep.{ValueStep}
use Rattle.js_tree.specs.Lexical.Value.{next, units_of, units_from}
use Rattle.js_tree.proofs.ValueLemmas.{all_units, no_units}
use Rattle.js_tree.proofs.value.units_in.Goals as goal

pub loop-c-preserved : goal.loop-c-preserved
loop-c-preserved c =
    let done = c.loop-c.yielded in
    let x = c.in-Some.c in
    let units = c.loop-c.units.items in
    let led = c.value_step-step.ensures.value in
    record {
      low = c.value_step-step.ensures.low;
      ends = fold-append next part.Plain done (x ∷ []) ∙ ap (λ (p : ValuePart). next p x) c.loop-c.invariant.ends ∙ ap (λ (s : ValueStep). s.part) (sym led);
      units = λ cs. ap (λ (us : List ℕ). us ++ units_from c.value_step-step.result.part cs) (c.in_ok-push_units.ensures {u = tt})
          ∙ append_assoc units (units_of c.value_step-step.result.code) (units_from c.value_step-step.result.part cs)
          ∙ ap (λ (s : ValueStep). units ++ (units_of s.code ++ units_from s.part cs)) led
          ∙ c.loop-c.invariant.units (x ∷ cs) ∙ ap (units_from part.Plain) (sym (append_assoc done (x ∷ []) cs));
    }

pub returns-then-value_may_end : goal.returns-then-value_may_end
returns-then-value_may_end c =
    let end = YieldsList-end (YieldsList-from_chars c.args.inner.now c.utf8.inner cc) c.loop-c.yielded _ c.loop-c.yielded_by _ _ c.in-None.is c.next.ensures.steps in
    all_units (chars c.args.inner.now) c.loop-c.yielded (sym (map-id c.loop-c.yielded) ∙ end.0) c.loop-c.part c.loop-c.units.items
    c.loop-c.invariant.ends c.loop-c.invariant.units (sym c.value_may_end.ensures ∙ c.if-value_may_end.true)

pub returns-else-value_may_end : goal.returns-else-value_may_end
returns-else-value_may_end c =
    let end = YieldsList-end (YieldsList-from_chars c.args.inner.now c.utf8.inner cc) c.loop-c.yielded _ c.loop-c.yielded_by _ _ c.in-None.is c.next.ensures.steps in
    no_units (chars c.args.inner.now) c.loop-c.yielded (sym (map-id c.loop-c.yielded) ∙ end.0) c.loop-c.part
    c.loop-c.invariant.ends (sym c.value_may_end.ensures ∙ c.if-value_may_end.false)
