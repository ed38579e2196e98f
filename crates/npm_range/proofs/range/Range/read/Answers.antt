use Rattle.npm_range.proofs.Uniqueness.{only_fault, only_range}
use Rattle.npm_range.proofs.range.Range.read.Goals as goal

pub returns-clause-only : goal.returns-clause-only
returns-clause-only c = only_range c.args.text.now c.read_alternatives.result c.read_alternatives.ensures.spelled c.read_alternatives.ensures.bad

pub returns-clause-refused : goal.returns-clause-refused
returns-clause-refused c = only_fault c.args.text.now c.read_alternatives.result c.read_alternatives.ensures.spelled c.read_alternatives.ensures.bad
