use Rattle.std.proofs.Common.{◌≡◌, ◌<◌, map, take}
use Rattle.std.specs.Prelude.{All}
use Rattle.std.specs.Str.{IsCharBoundary}
use Rattle.jam_app.specs.Printing.{spot_at}
use Rattle.jam_app.proofs.answers.printed.within.Given as goal

abbrev pub invariant-loop-offset : goal.invariant-loop-offset
invariant-loop-offset l = record {
  spots : map (spot_at l.text) l.made.items ≡ map (spot_at l.text) (take l.offset-index l.offsets);
  below : All (λ offset. offset < 4294967295) l.made.items;
  boundaries : All (IsCharBoundary l.text) l.made.items;
}
