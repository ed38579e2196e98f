use Rattle.std.proofs.Common.{◌≡◌, ◌++◌, take, string_bytes}
use Rattle.std.specs.Prelude.{flat_map}
use Rattle.report_text.specs.Reports.{path_line}
use Rattle.report_text.proofs.lines.push_path.Given as goal

abbrev pub invariant-loop-step : goal.invariant-loop-step
invariant-loop-step l = string_bytes l.out ≡ string_bytes l.initial.out ++ flat_map path_line (take l.step-index l.path)
