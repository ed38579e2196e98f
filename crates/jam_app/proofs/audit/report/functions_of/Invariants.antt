use Rattle.std.proofs.Common.{◌≡◌, map, take}
use Rattle.std.specs.Prelude.{All}
use Rattle.flow_rules.specs.Rules.{KeepsRules}
use Rattle.composer.specs.Parts.{lists_of}
use Rattle.jam_app.specs.Showing.{function_counts}
use Rattle.jam_app.proofs.audit.report.functions_of.Given as goal

abbrev pub invariant-loop-part : goal.invariant-loop-part
invariant-loop-part l = record {
  counts : l.counts.items ≡ function_counts (lists_of (take l.part-index l.parts));
  rules : All KeepsRules (lists_of (take l.part-index l.parts));
}
