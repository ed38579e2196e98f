use Rattle.std.proofs.Common.{◌≡◌, ◌++◌, map, take}
use Rattle.jam_app.specs.Notes.{missing_noted}
use Rattle.jam_app.proofs.audit.noted.push_missing.Given as goal

abbrev pub invariant-loop-require : goal.invariant-loop-require
invariant-loop-require l = l.made.items ≡ l.fn.made.items ++ map missing_noted (take l.require-index l.missing)
