-- The owner among some entries and one more.
use Rattle.std.proofs.Common.{◌≡◌, ℕ, zero, suc, ◌+◌, take, add-one, get_or, ◌<◌, List, [], ◌∷◌, ◌++◌, length, Some, None, true, false, refl, sym, ap, ◌∙◌, arith, inl, inr}
use Rattle.std.proofs.lemmas.Bool.{false≢true}
use Rattle.std.proofs.lemmas.List.Elements.{Contains-append_cases, Contains-append_right}
use Rattle.std.proofs.Math.Seq.{take-suc}
use Rattle.std.specs.List.{Contains}
use Rattle.lock_reader.specs.Owner.{IsOwner, owns}
use Rattle.lock_reader.specs.declared.lock.LockEntry.{LockEntry}

-- the one entry of a list
only_at : (e x : LockEntry) (k : ℕ) → k < 1 → get_or (e ∷ []) k x ≡ x → x ≡ e
only_at e x zero l at = sym at
only_at e x (suc k) l at = absurd (omega arith)

only : (e x : LockEntry) → Contains (e ∷ []) x → x ≡ e
only e x c = only_at e x c.0 c.1 c.2

here : (entries : List LockEntry) (e : LockEntry) → Contains (entries ++ e ∷ []) e
here entries e = Contains-append_right entries (e ∷ []) e (0, omega arith, refl)

-- a new entry that owns the path is the owner where it is the first that does, or has the longer location
pub IsOwner-first : (entries : List LockEntry) (e : LockEntry) (path : List ℕ) → owns e.location path ≡ true
    → IsOwner entries path None → IsOwner (entries ++ e ∷ []) path (Some e)
IsOwner-first entries e path mine h = (
  here entries e,
  mine,
  λ x c also. elim (Contains-append_cases entries (e ∷ []) x c) [
    | inl before ↦ absurd (false≢true (sym (h x before) ∙ also))
    | inr last ↦ let same = ap (λ (y : LockEntry). length y.location) (only e x last) in omega arith
  ],
)

pub IsOwner-longer : (entries : List LockEntry) (e o : LockEntry) (path : List ℕ) → owns e.location path ≡ true → length o.location < length e.location
    → IsOwner entries path (Some o) → IsOwner (entries ++ e ∷ []) path (Some e)
IsOwner-longer entries e o path mine l h = (
  here entries e,
  mine,
  λ x c also. elim (Contains-append_cases entries (e ∷ []) x c) [
    | inl before ↦ omega (arith, h.2 x before also)
    | inr last ↦ let same = ap (λ (y : LockEntry). length y.location) (only e x last) in omega arith
  ],
)

-- the first entries and the next one
pub take-read : (entries : List LockEntry) (i : ℕ) (e : LockEntry) → i < length entries → e ≡ get_or entries i e
    → take i entries ++ e ∷ [] ≡ take (i + 1) entries
take-read entries i e l same = rw add-one (ap (λ (x : LockEntry). take i entries ++ x ∷ []) same ∙ sym (take-suc entries i e l))
