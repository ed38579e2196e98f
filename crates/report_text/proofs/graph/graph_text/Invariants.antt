use Rattle.std.proofs.Common.{◌≡◌, take, string_bytes}
use Rattle.report_text.specs.Graph.{graph_text_of}
use Rattle.report_text.proofs.graph.graph_text.Given as goal

abbrev pub invariant-loop-step : goal.invariant-loop-step
invariant-loop-step l = string_bytes l.out ≡ graph_text_of (take l.step-index l.step-items)
