use Rattle.std.proofs.Common.{rules, of_calls}
use Rattle.std.specs.Cmp.Lexicographic.{slice_cmp}
use Rattle.std.specs.Ordering.{nat_cmp}
use Rattle.std.proofs.lemmas.Fn.{always_returns_same}
use Rattle.lock_reader.specs.declared.lock.LockEntry.{LockEntry}
use Rattle.lock_reader.proofs.PlaceLemmas.{found_place, no_place, searchable}
use Rattle.lock_reader.proofs.place.place_of.Goals as goal

pub returns-in-Ok : goal.returns-in-Ok
returns-in-Ok c =
    found_place c.args.entries.now c.args.location.now c.in-Ok.place c.requires c.in-Ok.ensures.bound
    (c.in-Ok.ensures.position (λ (y : LockEntry). slice_cmp nat_cmp y.location c.args.location.now) (always_returns_same _ _ _ (λ a r f k. search (rules, of_calls))))

pub returns-in-Err : goal.returns-in-Err
returns-in-Err c =
    no_place c.args.entries.now c.args.location.now c.in-Err.field-0
    (c.in-Err.ensures.position (λ (y : LockEntry). slice_cmp nat_cmp y.location c.args.location.now) (always_returns_same _ _ _ (λ a r f k. search (rules, of_calls)))
    (searchable c.args.entries.now c.args.location.now c.requires))
