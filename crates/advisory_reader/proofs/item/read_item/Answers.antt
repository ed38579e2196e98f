use Rattle.std.proofs.Common.{inr, sym, ◌∙◌}
use Rattle.std.proofs.lemmas.Result.{err_from_is_err_and}
use Rattle.serde_json.specs.View.{view}
use Rattle.advisory_reader.proofs.Items.{IsWrong-functions, IsWrong-range, named_of-known}
use Rattle.advisory_reader.proofs.item.read_item.Goals as goal

pub returns-in_err-range-clause-wrong : goal.returns-in_err-range-clause-wrong
returns-in_err-range-clause-wrong c =
    let p = err_from_is_err_and c.from_residual.result c.from_residual.ensures.1 in
    let named = named_of-known (view c.args.value.now) c.in-Some.id.now c.in-Some-some_text_in.«package».now c.in-Some-text_in.range.now
    c.in-Some.ensures c.in-Some-some_text_in.ensures c.in-Some-text_in.ensures in
    rw (p.1, p.2) (IsWrong-range c.args.index (view c.args.value.now) _ c.in_err-range.field-0.0 named c.in_err-range.ensures.bad)

pub returns-in_default-2-clause-wrong : goal.returns-in_default-2-clause-wrong
returns-in_default-2-clause-wrong c =
    let named = named_of-known (view c.args.value.now) c.in-Some.id.now c.in-Some-some_text_in.«package».now c.in-Some-text_in.range.now
    c.in-Some.ensures c.in-Some-some_text_in.ensures c.in-Some-text_in.ensures in
    inr (IsWrong-functions c.args.index (view c.args.value.now) _ c.in_ok-range.range c.wrong_field-in_default-2.result named c.in_ok-range.ensures.spelled
    (sym c.in_ok-functions.ensures ∙ c.in_default-2.is) c.wrong_field-in_default-2.ensures)
