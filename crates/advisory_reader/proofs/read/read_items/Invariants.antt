use Rattle.std.proofs.Common.{◌++◌, List, Option, drop}
use Rattle.serde_json.specs.View.{items_view}
use Rattle.npm_range.specs.Grammar.{Reads}
use Rattle.advisory_reader.specs.Advisories.{EndsList, NextAdvisory, ReadsList}
use Rattle.advisory_reader.specs.declared.advisory.Advisory.{Advisory}
use Rattle.advisory_reader.specs.declared.fault.AdvisoryFault.{AdvisoryFault}
use Rattle.advisory_reader.proofs.read.read_items.Given as goal

abbrev pub invariant-loop-i : goal.invariant-loop-i
invariant-loop-i l = (rest : List Advisory) (end : Option AdvisoryFault) → Reads NextAdvisory EndsList (l.i, items_view (drop l.i l.values)) rest end
    → ReadsList (items_view l.values) (l.advisories.items ++ rest) end
