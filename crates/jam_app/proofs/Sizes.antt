-- How many modules there are, and how many bytes they have.
use Rattle.std.proofs.Common.{◌≡◌, ℕ, ◌+◌, ◌<◌, ◌≤◌, true, false, List, [], ◌∷◌, ◌++◌, length, nat_lt, ap, sym, subst, ◌∙◌, arith, add_assoc, add-zero, zero-add, length-append, append_assoc, cond, map, Option, None}
use Rattle.std.specs.Option.{IfSome}
use Rattle.std.proofs.lemmas.List.{append-nil, map-append}
use Rattle.std.proofs.lemmas.Bool.Decides.{nat_tests}
use Rattle.jam_base.specs.Files.{Files}
use Rattle.jam_app.specs.declared.answers.refusal.Refusal.{Refusal}
use Rattle.jam_app.specs.declared.answers.refusal.Refusal.TheVariants as refusal
use Rattle.jam_app.specs.declared.loading.size.Size.{Size}
use Rattle.jam_app.specs.declared.loading.source.Source.{Source}
use Rattle.jam_app.specs.declared.answers.stop.Stop.{Stop}
use Rattle.jam_app.specs.Reading.{HasExcess, IsExcess, file_at, file_of, size_of}
use Rattle.jam_app.specs.Stops.{HasStopCause, Refuses}
use Rattle.jam_app.proofs.Causes.{any_files, refused_stop, told}
use Rattle.jam_app.specs.Rounds.{text_at, module_limit, total_bytes}

pub total_append : (m : Files) (xs ys : List (List ℕ)) → total_bytes m (xs ++ ys) ≡ total_bytes m xs + total_bytes m ys
total_append m [] ys = sym (zero-add (total_bytes m ys))
total_append m (x ∷ xs) ys = ap (λ n. length (text_at m x) + n) (total_append m xs ys) ∙ sym (add_assoc (length (text_at m x)) (total_bytes m xs) (total_bytes m ys))

-- one more file
pub total_push : (m : Files) (xs : List (List ℕ)) (path : List ℕ) → total_bytes m (xs ++ path ∷ []) ≡ total_bytes m xs + length (text_at m path)
total_push m xs path = total_append m xs (path ∷ []) ∙ omega arith

-- the size with one more file
pub size_push : (m : Files) (size : Size) (earlier : List (List ℕ)) (path text : List ℕ) → size ≡ size_of m earlier → text ≡ text_at m path
    → ◌≡◌ {A = Size} (record { modules = size.modules + 1; bytes = size.bytes + length text }) (size_of m (earlier ++ path ∷ []))
size_push m size earlier path text is read =
    let modules : size.modules + 1 ≡ length (earlier ++ path ∷ []) = ap (λ (s : Size). s.modules + 1) is ∙ sym (length-append earlier (path ∷ [])) in
    let all : size.bytes + length text ≡ total_bytes m (earlier ++ path ∷ []) = ap (λ (s : Size). s.bytes + length text) is ∙ ap (λ (t : List ℕ). total_bytes m earlier + length t) read ∙ sym (total_push m earlier path) in
    λ i. record { modules = modules i; bytes = all i }

-- a text with more bytes than there is room for
pub excess_bytes : (m : Files) (size : Size) (earlier : List (List ℕ)) (path text : List ℕ) → size.modules + 1 ≤ 16384 → size.bytes ≤ 67108864 → 67108864 < size.bytes + length text
    → text ≡ text_at m path → size ≡ size_of m earlier → IsExcess m earlier path (refusal.TooMany (size.modules + 1) (size.bytes + length text))
excess_bytes m size earlier path text few room over read is =
    let modules : size.modules ≡ length earlier = ap (λ (s : Size). s.modules) is in
    let all : size.bytes ≡ total_bytes m earlier = ap (λ (s : Size). s.bytes) is in
    let longer : length text ≡ length (text_at m path) = ap length read in
    record {
      fit = record { modules = omega arith; bytes = omega arith };
      over = λ fits. absurd (omega (arith, fits.bytes, total_push m earlier path));
      is = (λ i. refusal.TooMany (modules i + 1) (all i + longer i)) ∙ ap (λ b. refusal.TooMany (length earlier + 1) (total_bytes m earlier + cond b (length (text_at m path)) 0)) (sym (is_below (length earlier) (omega arith)));
    }
  where
    is_below : (n : ℕ) → n + 1 ≤ 16384 → nat_lt n module_limit ≡ true
    is_below n h = grind (arith, nat_tests)

-- a module for which there is no room
pub excess_modules : (m : Files) (size : Size) (earlier : List (List ℕ)) (path : List ℕ) → size.modules ≤ 16384 → 16384 < size.modules + 1 → size.bytes ≤ 67108864
    → size ≡ size_of m earlier → IsExcess m earlier path (refusal.TooMany (size.modules + 1) size.bytes)
excess_modules m size earlier path few over room is =
    let modules : size.modules ≡ length earlier = ap (λ (s : Size). s.modules) is in
    let all : size.bytes ≡ total_bytes m earlier = ap (λ (s : Size). s.bytes) is in
    record {
      fit = record { modules = omega arith; bytes = omega arith };
      over = λ fits. absurd (omega (arith, fits.modules, length-append earlier (path ∷ [])));
      is = (λ i. refusal.TooMany (modules i + 1) (all i))
          ∙ ap (refusal.TooMany (length earlier + 1)) (sym (add-zero (total_bytes m earlier)) ∙ ap (λ b. total_bytes m earlier + cond b (length (text_at m path)) 0) (sym (not_below (length earlier) (omega arith))));
    }
  where
    not_below : (n : ℕ) → 16384 ≤ n → nat_lt n module_limit ≡ false
    not_below n h = grind (arith, nat_tests)

-- the stop for it
pub excess_modules_stop : (size : Size) (path : List ℕ) (files : Option Files) (before now : ℕ) (stop : Stop) → size.modules ≤ 16384 → 16384 < size.modules + 1 → size.bytes ≤ 67108864
    → Refuses (refusal.TooMany (size.modules + 1) size.bytes) stop → HasStopCause (λ m owed. (earlier : List (List ℕ)) → size ≡ size_of m earlier → IsExcess m earlier path owed) files before now stop
excess_modules_stop size path files before now stop few over room is =
    refused_stop (λ m owed. (earlier : List (List ℕ)) → size ≡ size_of m earlier → IsExcess m earlier path owed) (refusal.TooMany (size.modules + 1) size.bytes) files before now stop is
    (any_files files (λ m earlier of. excess_modules m size earlier path few over room of))

-- what stands after some files of a round were read: their sources, and the size with them
pub record Taken (m : Files) (start size : Size) (sources : List Source) (done : List (List ℕ)) : Type 0 where
  pub files : map file_of sources ≡ map (file_at m) done
  pub sizes : (earlier : List (List ℕ)) → start ≡ size_of m earlier → size ≡ size_of m (earlier ++ done)

pub taken_more : (m : Files) (start size new : Size) (sources all : List Source) (source : Source) (done : List (List ℕ)) (path : List ℕ) → Taken m start size sources done
    → (file_of source ≡ file_at m path) × ((earlier : List (List ℕ)) → size ≡ size_of m earlier → new ≡ size_of m (earlier ++ path ∷ []))
    → all ≡ sources ++ source ∷ [] → Taken m start new all (done ++ path ∷ [])
taken_more m start size new sources all source done path taken step pushed = record {
  files = ap (map file_of) pushed ∙ map-append file_of sources (source ∷ []) ∙ (λ i. taken.files i ++ step.0 i ∷ []) ∙ sym (map-append (file_at m) done (path ∷ []));
  sizes = λ earlier is. step.1 (earlier ++ done) (taken.sizes earlier is) ∙ ap (size_of m) (append_assoc earlier done (path ∷ []));
}

-- the refusal for the first of a round that is one too many
pub excess_in : (m : Files) (start size : Size) (sources : List Source) (round done : List (List ℕ)) (path : List ℕ) (behind : List (List ℕ)) (owed : Refusal) → Taken m start size sources done
    → round ≡ done ++ path ∷ behind → ((earlier : List (List ℕ)) → size ≡ size_of m earlier → IsExcess m earlier path owed)
    → (earlier : List (List ℕ)) → start ≡ size_of m earlier → HasExcess m earlier round owed
excess_in m start size sources round done path behind owed taken parts excess earlier is =
    record { front = done; path = path; behind = behind; parts = parts; excess = excess (earlier ++ done) (taken.sizes earlier is) }

-- the stop for a text with more bytes than there is room for
pub excess_stop : (size : Size) (path text : List ℕ) (files : Option Files) (before now n : ℕ) (stop : Stop) → n ≡ length text
    → size.modules + 1 ≤ 16384 → size.bytes ≤ 67108864 → 67108864 < size.bytes + n → IfSome files (λ m. text ≡ text_at m path)
    → Refuses (refusal.TooMany (size.modules + 1) (size.bytes + n)) stop
    → HasStopCause (λ m owed. (earlier : List (List ℕ)) → size ≡ size_of m earlier → IsExcess m earlier path owed) files before now stop
excess_stop size path text files before now n stop long few room over read is =
    let P : Files → Refusal → Type 0 = λ m owed. (earlier : List (List ℕ)) → size ≡ size_of m earlier → IsExcess m earlier path owed in
    refused_stop P (refusal.TooMany (size.modules + 1) (size.bytes + n)) files before now stop is
    (told files read (λ m r earlier of. subst (λ k. IsExcess m earlier path (refusal.TooMany (size.modules + 1) (size.bytes + k))) (sym long)
    (excess_bytes m size earlier path text few room (omega (arith, over, long)) r of)))
