-- What a round leads to: the next one, or a refusal.
use Rattle.std.proofs.Common.{◌≡◌, ℕ, suc, ◌<◌, ◌≤◌, List, [], ◌∷◌, ◌++◌, length, map, refl, ap, sym, subst, ◌∙◌, arith, inl, inr, ⊎_elim}
use Rattle.std.specs.Prelude.{◌↔◌, All, Contains, IsSome}
use Rattle.std.specs.List.{flat_map}
use Rattle.std.proofs.lemmas.List.{append_assoc, map-append}
use Rattle.std.proofs.lemmas.List.Elements.{All-append, All-contains, All-cons, All-head, All-nil, All-tail, Contains-append_cases, Contains-append_left, Contains-append_right}
use Rattle.js_tree.specs.Spells.{limit}
use Rattle.jam_base.specs.Files.{Files}
use Rattle.composer.proofs.Members.{here}
use Rattle.jam_app.specs.declared.loading.loaded.Loaded.{Loaded}
use Rattle.jam_app.specs.declared.answers.refusal.Refusal.{Refusal}
use Rattle.jam_app.specs.declared.loading.rounds.Progress.{Progress}
use Rattle.jam_app.specs.declared.loading.size.Size.{Size}
use Rattle.jam_app.specs.declared.loading.source.Source.{Source}
use Rattle.jam_app.specs.Reading as reading
use Rattle.jam_app.specs.Reading.{HasBad, HasExcess, IsRefusedFor, file_at, file_of, led_from, size_of, source_of}
use Rattle.jam_app.specs.BetweenRounds.{IsHeld, Stands, found_at}
use Rattle.jam_app.specs.Refusals.{IsFirstBad, IsLoadRefusal, construct, not_in_profile, too_large, too_many}
use Rattle.jam_app.specs.Rounds.{Ascend, Fits, IsRound, NoneBad, text_at, total_bytes}
use Rattle.jam_app.specs.Entries.{Start}
use Rattle.jam_app.specs.Loading.{IsKept}
use Rattle.jam_app.specs.Texts.{IsBad}
use Rattle.jam_app.proofs.Keeping.{Kept}
use Rattle.jam_app.proofs.Standing.{are_of, next_round, round_none_bad, whole_files}

-- what has this size is within the limits where the size is
pub size_fits : (m : Files) (size : Size) (paths : List (List ℕ)) → size ≡ size_of m paths → size.modules ≤ 16384 → size.bytes ≤ 67108864 → Fits m paths
size_fits m size paths is few room =
    let modules : size.modules ≡ length paths = ap (λ (s : Size). s.modules) is in
    let bytes : size.bytes ≡ total_bytes m paths = ap (λ (s : Size). s.bytes) is in
    record { modules = omega arith; bytes = omega arith }

-- the next round stands
pub stands_next : (m : Files) (start : Start) (old new : Progress) (sources : List Source) (modules : List Loaded) (round paths next : List (List ℕ)) → Stands start m old round
    → map file_of sources ≡ map (file_at m) round → map source_of modules ≡ sources → All (IsKept start.skip m) modules
    → ((earlier : List (List ℕ)) → old.size ≡ size_of m earlier → new.size ≡ size_of m (earlier ++ round))
    → Kept (found_at old.modules) (found_at new.modules) modules → paths ≡ flat_map led_from modules → Ascend next
    → ((path : List ℕ) → Contains next path ↔ (Contains paths path × (IsSome (found_at new.modules path) → ⊥))) → Stands start m new next
stands_next m start old new sources modules round paths next stands files are read sizes kept paths_are sorted here =
    let of = are_of m modules sources round are files in
    let loaded : (path : List ℕ) → IsSome (found_at new.modules path) ↔ Contains (stands.before ++ round) path = λ path. (
      λ h. ⊎_elim (λ g. Contains-append_left stands.before round path ((stands.here path).0 g))
          (λ g. Contains-append_right stands.before round path (subst (λ (ps : List (List ℕ)). Contains ps path) of.paths g)) ((kept.here path).0 h),
      λ h. (kept.here path).1 (⊎_elim (λ g. inl ((stands.here path).1 g)) (λ g. inr (subst (λ (ps : List (List ℕ)). Contains ps path) (sym of.paths) g)) (Contains-append_cases stands.before round path h)),
    ) in
    record {
      entry = stands.entry;
      found = stands.found;
      number = suc stands.number;
      before = stands.before ++ round;
      is_round = (stands.before, round, stands.is_round, refl, next_round m start.skip modules round paths of read paths_are stands.before next (found_at new.modules) loaded sorted here);
      none_bad = λ unskipped. All-append (λ path. IsBad (text_at m path) → ⊥) stands.before round (stands.none_bad unskipped) (round_none_bad m start.skip modules round paths of read paths_are unskipped);
      size = sizes stands.before stands.size;
      here = loaded;
      held = λ path l is. ⊎_elim (λ g. stands.held path l g) (λ g. record {
        at = g.0;
        text = All-contains (λ (l : Loaded). l.text ≡ text_at m l.path) modules l of.texts g.1;
        kept = All-contains (IsKept start.skip m) modules l read g.1;
      }) (kept.which path l is);
    }

-- the first module that is one too many is refused
pub refuses_excess : (m : Files) (start : Start) (old : Progress) (round : List (List ℕ)) (owed : Refusal) → Stands start m old round
    → ((earlier : List (List ℕ)) → old.size ≡ size_of m earlier → HasExcess m earlier round owed) → IsLoadRefusal start m owed
refuses_excess m start old round owed stands has =
    let h = has stands.before stands.size in
    subst (IsLoadRefusal start m) (sym h.excess.is) (too_many (stands.before ++ h.front) h.path (record {
      before = stands.before;
      front = h.front;
      behind = h.behind;
      earlier_are = refl;
      reached = record { entry = stands.entry; found = stands.found; number = stands.number; is_round = subst (λ r. IsRound m stands.entry stands.number stands.before r) h.parts stands.is_round; none_bad = stands.none_bad };
      fit = h.excess.fit;
      over = h.excess.over;
    }))

large_bad : (text : List ℕ) → limit < length text → IsBad text
large_bad text over tree s = absurd (omega (arith, over, s.fits))

is_bad : (path text : List ℕ) (owed : Refusal) → IsRefusedFor path text owed → IsBad text
is_bad path text owed (reading.too_large over) = large_bad text over
is_bad path text owed (reading.construct at what none within refused) = none
is_bad path text owed (reading.not_in_profile at none within refused) = none

refuses_for : (m : Files) (start : Start) (path : List ℕ) (owed : Refusal) → IsFirstBad start m path → IsRefusedFor path (text_at m path) owed → IsLoadRefusal start m owed
refuses_for m start path owed first (reading.too_large over) = too_large path first over
refuses_for m start path owed first (reading.construct at what none within refused) = construct path at what first within refused
refuses_for m start path owed first (reading.not_in_profile at none within refused) = not_in_profile path at first within refused

-- the first bad module of a round is refused
pub refuses_bad : (m : Files) (start : Start) (old : Progress) (new : Size) (sources : List Source) (round : List (List ℕ)) (owed : Refusal) → Stands start m old round
    → map file_of sources ≡ map (file_at m) round → ((earlier : List (List ℕ)) → old.size ≡ size_of m earlier → new ≡ size_of m (earlier ++ round)) → new.modules ≤ 16384 → new.bytes ≤ 67108864
    → HasBad start.skip sources owed → IsLoadRefusal start m owed
refuses_bad m start old new sources round owed stands files sizes few room has =
    let whole = whole_files m sources round files in
    let source = has.source in
    let front : List (List ℕ) = map (λ (s : Source). s.path) has.front in
    let behind : List (List ℕ) = map (λ (s : Source). s.path) has.behind in
    let parts : round ≡ front ++ source.path ∷ behind = sym whole.0 ∙ ap (map (λ (s : Source). s.path)) has.parts ∙ map-append (λ (s : Source). s.path) has.front (source ∷ has.behind) in
    let texts : All (λ (s : Source). s.text ≡ text_at m s.path) (has.front ++ source ∷ has.behind) = subst (All (λ (s : Source). s.text ≡ text_at m s.path)) has.parts whole.1 in
    let here_text : source.text ≡ text_at m source.path = All-contains (λ (s : Source). s.text ≡ text_at m s.path) (has.front ++ source ∷ has.behind) source texts (Contains-append_right has.front (source ∷ has.behind) source (here source has.behind)) in
    let refused : IsRefusedFor source.path (text_at m source.path) owed = subst (λ text. IsRefusedFor source.path text owed) here_text has.refused in
    let all : stands.before ++ round ≡ stands.before ++ front ++ source.path ∷ behind = ap (λ r. stands.before ++ r) parts ∙ sym (append_assoc stands.before front (source.path ∷ behind)) in
    refuses_for m start source.path owed (record {
      unskipped = has.unskipped;
      before = stands.before;
      front = front;
      behind = behind;
      reached = record { entry = stands.entry; found = stands.found; number = stands.number; is_round = subst (λ r. IsRound m stands.entry stands.number stands.before r) parts stands.is_round; none_bad = stands.none_bad };
      fits = subst (Fits m) all (size_fits m new (stands.before ++ round) (sizes stands.before stands.size) few room);
      none_bad = front_fine has.front (source ∷ has.behind) texts has.none_bad;
      bad = is_bad source.path (text_at m source.path) owed refused;
    }) refused
  where
    front_fine : (ss rest : List Source) → All (λ (s : Source). s.text ≡ text_at m s.path) (ss ++ rest) → All (λ (s : Source). IsBad s.text → ⊥) ss → NoneBad m (map (λ (s : Source). s.path) ss)
    front_fine [] rest b n = All-nil (λ (p : List ℕ). IsBad (text_at m p) → ⊥)
    front_fine (s ∷ ss) rest b n = All-cons (λ (p : List ℕ). IsBad (text_at m p) → ⊥) s.path (map (λ (s : Source). s.path) ss)
        (λ h. All-head (λ (s : Source). IsBad s.text → ⊥) s ss n (subst IsBad (sym (All-head (λ (s : Source). s.text ≡ text_at m s.path) s (ss ++ rest) b)) h))
        (front_fine ss rest (All-tail (λ (s : Source). s.text ≡ text_at m s.path) s (ss ++ rest) b) (All-tail (λ (s : Source). IsBad s.text → ⊥) s ss n))
