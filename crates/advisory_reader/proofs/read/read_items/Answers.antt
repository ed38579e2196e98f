use Rattle.std.proofs.Common.{rules}
use Rattle.std.proofs.lemmas.Result.{err_from_is_err_and}
use Rattle.advisory_reader.proofs.Items.{all_items, wrong_item}
use Rattle.advisory_reader.proofs.read.read_items.Goals as goal

pub returns-in_err-read_item-clause-wrong : goal.returns-in_err-read_item-clause-wrong
returns-in_err-read_item-clause-wrong c =
    let p = err_from_is_err_and c.from_residual.result c.from_residual.ensures.1 in
    rw (p.1, p.2) (wrong_item c.args.values.now c.loop-i.i c.in-Ok.index c.index-values-i.result c.loop-i.advisories.items c.in_err-read_item.field-0.0
    (search rules) c.loop-i-test.true c.index-values-i.is c.loop-i.invariant c.in_err-read_item.ensures.wrong)

pub returns-clause-read : goal.returns-clause-read
returns-clause-read c = all_items c.args.values.now c.loop-i.i c.loop-i.advisories.items c.loop-i-test.false c.loop-i.invariant
