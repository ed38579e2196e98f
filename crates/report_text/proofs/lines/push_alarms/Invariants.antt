use Rattle.std.proofs.Common.{◌≡◌, ◌++◌, take, string_bytes}
use Rattle.std.specs.Prelude.{flat_map}
use Rattle.report_text.specs.Reports.{alarm_text}
use Rattle.report_text.proofs.lines.push_alarms.Given as goal

abbrev pub invariant-loop-alarm : goal.invariant-loop-alarm
invariant-loop-alarm l = string_bytes l.out ≡ string_bytes l.initial.out ++ flat_map alarm_text (take l.alarm-index l.alarms)
