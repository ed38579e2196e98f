use Rattle.std.proofs.Common.{◌≡◌, map, take}
use Rattle.jam_app.specs.Loading.{module_of}
use Rattle.jam_app.specs.Printing.{printed_of}
use Rattle.jam_app.proofs.answers.edges.printed_modules.Given as goal

abbrev pub invariant-loop-one : goal.invariant-loop-one
invariant-loop-one l = l.printed.items ≡ map printed_of (map module_of (take l.one-index l.loaded))
