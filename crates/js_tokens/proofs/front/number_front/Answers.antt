use Rattle.std.proofs.Common.{arith, subst}
use Rattle.std.proofs.Common.{List, ℕ}
use Rattle.js_tokens.specs.Reading.{Reached}
use Rattle.js_tokens.proofs.FrontLemmas.{none_of, no_number, reaches_number, number_boundary}
use Rattle.js_tokens.specs.declared.goal.Sort.TheVariants as sort
use Rattle.js_tree.specs.Lexical.{IsNumber}
use Rattle.js_tokens.proofs.front.number_front.Goals as goal

pub returns-then-len-eq0 : goal.returns-then-len-eq0
returns-then-len-eq0 c =
    (none_of IsNumber sort.Number c.args.text.now c.number_len-len.result (subst (λ (t : List ℕ). Reached IsNumber t c.number_len-len.result) c.as_bytes.ensures.value c.number_len-len.ensures) c.if-len-eq0.true no_number reaches_number, λ h. h)

pub begins_apart-requires-clause-boundary : goal.begins_apart-requires-clause-boundary
begins_apart-requires-clause-boundary c =
    number_boundary c.args.text.now c.number_len-len.result c.utf8.text (subst (λ (t : List ℕ). Reached IsNumber t c.number_len-len.result) c.as_bytes.ensures.value c.number_len-len.ensures) (omega arith)
