use Rattle.std.proofs.Common.{◌≡◌, ◌++◌, map}
use Rattle.jam_app.specs.declared.loading.loaded.Loaded.{Loaded}
use Rattle.jam_app.specs.Loading.{part_of}
use Rattle.jam_app.proofs.loading.parts.parts_of.Given as goal

abbrev pub invariant-loop-one : goal.invariant-loop-one
invariant-loop-one l = l.parts.items ++ map part_of l.one-iterator.rest.items ≡ map part_of l.fn.loaded.items
