use Rattle.flow_rules.proofs.RuleLemmas.{differ_by_test}
use Rattle.flow_rules.proofs.rules.differs.Goals as goal

pub returns : goal.returns
returns c = differ_by_test c.args.flow.now.from c.args.flow.now.to c.ne.result c.ne.ensures
