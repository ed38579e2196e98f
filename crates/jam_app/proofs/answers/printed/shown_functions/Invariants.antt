use Rattle.std.proofs.Common.{◌≡◌, map, take}
use Rattle.jam_app.specs.Graphs.{shown_at}
use Rattle.jam_app.proofs.answers.printed.shown_functions.Given as goal

abbrev pub invariant-loop-i : goal.invariant-loop-i
invariant-loop-i l = l.made.items ≡ map (shown_at l.path l.text) (take l.i l.functions)
