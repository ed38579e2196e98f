-- The entries that are read ascend as the members do.
use Rattle.std.proofs.Common.{◌≡◌, ℕ, List, [], ◌∷◌, Option, Some, None, Result, Ok, Err, String, Global, map, refl, ap, sym, ◌∙◌, string_bytes, string_cmp, Less}
use Rattle.std.specs.Cmp.Lexicographic.{slice_cmp}
use Rattle.std.specs.List.{AllByRecursion}
use Rattle.std.specs.List.Sorted.{IsStrictlySortedBy}
use Rattle.std.specs.Ordering.{nat_cmp}
use Rattle.std.specs.Option.{option_map}
use Rattle.serde_json.specs.Data.{Data}
use Rattle.serde_json.specs.View.{members_view, view}
use Rattle.serde_json.specs.declared.value.Value.{Value}
use Rattle.lock_reader.specs.Lock.{IsAscending, entries_of, entry_of, name_of, texts_of, with_entry}
use Rattle.lock_reader.specs.declared.fault.LockFault.{LockFault}
use Rattle.lock_reader.specs.declared.lock.LockEntry.{LockEntry}

-- an entry has its location
abbrev with_texts : List ℕ → Option (List ℕ) × Option (List ℕ) → LockEntry
with_texts location texts = record { location = location; name = name_of location texts.0; version = texts.1 }

with_texts-location : (location : List ℕ) (t : Option (Option (List ℕ) × Option (List ℕ))) (e : LockEntry) → option_map (with_texts location) t ≡ Some e → e.location ≡ location
with_texts-location location None e h = cc h
with_texts-location location (Some texts) e h = let same : with_texts location texts ≡ e = cc h in sym (ap (λ (x : LockEntry). x.location) same)

entry_of-location : (location : List ℕ) (d : Data) (e : LockEntry) → entry_of location d ≡ Some e → e.location ≡ location
unfolding entry_of
entry_of-location location d e h = with_texts-location location (texts_of d) e h

-- what stands behind a list of entries
with_entry-ok : (location : List ℕ) (o : Option LockEntry) (r : Result (List LockEntry) LockFault) (es : List LockEntry) → with_entry location o r ≡ Ok es
    → (e : LockEntry) × (more : List LockEntry) × (o ≡ Some e) × (r ≡ Ok more) × (es ≡ e ∷ more)
with_entry-ok location None r es h = cc h
with_entry-ok location (Some e) (Ok more) es h = (e, more, refl, refl, cc h)
with_entry-ok location (Some e) (Err f) es h = cc h

locations_of : (ms : List (String Global × Value)) (es : List LockEntry) → entries_of (members_view ms) ≡ Ok es
    → map (λ e. e.location) es ≡ map string_bytes (map (λ m. m.0) ms)
unfolding entries_of
locations_of [] es h = let none : es ≡ [] = cc h in rw none refl
locations_of (m ∷ ms) es h =
    let w = with_entry-ok (string_bytes m.0) _ _ es h in
    let here = entry_of-location (string_bytes m.0) (view m.1) w.0 w.2 in
    rw w.4 (ap (λ l. l ∷ map (λ (e : LockEntry). e.location) w.1) here ∙ ap (λ ls. string_bytes m.0 ∷ ls) (locations_of ms w.1 w.3))

all_below : (k : String Global) (ks : List (String Global)) → AllByRecursion (λ y. string_cmp k y ≡ Less) ks
    → AllByRecursion (λ y. slice_cmp nat_cmp (string_bytes k) y ≡ Less) (map string_bytes ks)
all_below k [] h = tt
all_below k (l ∷ ks) h = (h.0, all_below k ks h.1)

sorted_bytes : (ks : List (String Global)) → IsStrictlySortedBy string_cmp ks → IsStrictlySortedBy (slice_cmp nat_cmp) (map string_bytes ks)
unfolding IsStrictlySortedBy
sorted_bytes [] h = tt
sorted_bytes (k ∷ ks) h = (all_below k ks h.0, sorted_bytes ks h.1)

pub IsAscending-read : (ms : List (String Global × Value)) (es : List LockEntry) → entries_of (members_view ms) ≡ Ok es
    → IsStrictlySortedBy string_cmp (map (λ m. m.0) ms) → IsAscending es
unfolding IsAscending
IsAscending-read ms es h sorted = rw (locations_of ms es h) (sorted_bytes (map (λ m. m.0) ms) sorted)
