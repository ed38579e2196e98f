-- The exit statuses of the program.
use Rattle.std.specs.Prelude.{ℕ}
use Rattle.jam_app.specs.declared.answers.status.Status.{Status}
use Rattle.jam_app.specs.declared.answers.status.Status.TheVariants.{Clean, Alarms, Refused, ReadFault, WriteFault, NoMemory, Usage}

abbrev pub number_of : Status → ℕ
number_of Clean = 0
number_of Alarms = 1
number_of (Refused refusal) = 2
number_of ReadFault = 3
number_of WriteFault = 4
number_of NoMemory = 5
number_of Usage = 6
