use Rattle.std.proofs.Common.{◌≡◌, ◌≤◌, ◌-◌, ◌++◌, length, take}
use Rattle.std.specs.Option.{option_map}
use Rattle.jam_app.proofs.answers.write.write_all.Given as goal

abbrev pub invariant-loop-done : goal.invariant-loop-done
invariant-loop-done g l =
    let taken = g.O.Sink.taken in
    let faults = g.O.Sink.faults in
    record {
      within : l.done ≤ length l.bytes;
      front : taken l.out ≡ option_map (λ old. old ++ take l.done l.bytes) (taken l.fn.out);
      same : faults l.out ≡ faults l.fn.out;
    }

abbrev pub decreases-loop-done : goal.decreases-loop-done
decreases-loop-done g l = length l.bytes - l.done
