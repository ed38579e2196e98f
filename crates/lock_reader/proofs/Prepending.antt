-- Entries read one after another.
use Rattle.std.proofs.Common.{◌≡◌, List, [], ◌∷◌, ◌++◌, Result, Ok, Err, Some, refl, ap, append_assoc, sym, ℕ}
use Rattle.serde_json.specs.Data.{Data, Members, member}
use Rattle.lock_reader.specs.Lock.{entries_of, entry_of, with_entry}
use Rattle.lock_reader.specs.declared.fault.LockFault.{LockFault}
use Rattle.lock_reader.specs.declared.lock.LockEntry.{LockEntry}

-- some entries before the ones that are read next
abbrev pub prepend : List LockEntry → Result (List LockEntry) LockFault → Result (List LockEntry) LockFault
prepend done (Ok more) = Ok (done ++ more)
prepend done (Err f) = Err f

pub prepend-more : (done : List LockEntry) (location : List ℕ) (e : LockEntry) (rest : Result (List LockEntry) LockFault)
    → prepend done (with_entry location (Some e) rest) ≡ prepend (done ++ e ∷ []) rest
prepend-more done location e (Ok more) = ap Ok (sym (append_assoc done (e ∷ []) more))
prepend-more done location e (Err f) = refl

-- one more member read
pub entries_of-next : (done : List LockEntry) (location : List ℕ) (d : Data) (e : LockEntry) (ms : Members) → entry_of location d ≡ Some e
    → prepend done (entries_of (member location d ms)) ≡ prepend (done ++ e ∷ []) (entries_of ms)
unfolding entries_of
entries_of-next done location d e ms h = rw h (prepend-more done location e (entries_of ms))
