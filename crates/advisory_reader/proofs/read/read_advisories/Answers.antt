use Rattle.advisory_reader.proofs.Uniqueness.{only_fault, only_list}
use Rattle.advisory_reader.proofs.read.read_advisories.Goals as goal

pub returns-clause-only : goal.returns-clause-only
returns-clause-only c = only_list c.args.bytes.now c.read_bytes.result c.read_bytes.ensures.spelled c.read_bytes.ensures.fault

pub returns-clause-refused : goal.returns-clause-refused
returns-clause-refused c = only_fault c.args.bytes.now c.read_bytes.result c.read_bytes.ensures.spelled c.read_bytes.ensures.fault
