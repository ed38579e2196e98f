-- Modules without a tree.
use Rattle.std.proofs.Common.{refl, arith, ◌≡◌, ℕ, ◌∷◌, ◌++◌, List, map, sym, subst, Bool, false, Option, Some, None}
use Rattle.std.specs.Prelude.{All, Contains}
use Rattle.std.proofs.lemmas.List.Elements.{All-contains, All-map, All-weaker, Contains-append_right}
use Rattle.jam_base.specs.Files.{Files}
use Rattle.jam_app.specs.declared.loading.module.Parsed.{Parsed}
use Rattle.jam_app.specs.declared.answers.refusal.Refusal.{Refusal}
use Rattle.jam_app.specs.declared.answers.refusal.Refusal.TheVariants as refusal
use Rattle.jam_app.specs.declared.loading.source.Source.{Source}
use Rattle.jam_app.specs.declared.answers.stop.Stop.{Stop}
use Rattle.jam_app.specs.declared.answers.stop.Stop.TheVariants as stops
use Rattle.jam_app.specs.declared.loading.text.Bad.{Bad}
use Rattle.jam_app.specs.declared.loading.text.Bad.TheVariants as bad
use Rattle.jam_app.specs.Reading.{HasBad, IsParsed, IsRefusedFor, construct, not_in_profile, too_large}
use Rattle.jam_app.specs.Texts.{IsBad}
use Rattle.composer.proofs.Members.{here}
use Rattle.jam_app.proofs.Causes.{any_files, refused_stop, told}
use Rattle.jam_app.proofs.TreeLemmas.{not_bad}
use Rattle.jam_app.specs.Stops.{HasBadCause, HasStopCause, KeepsCount, StopsFor}

-- a module that has no tree, where such modules aren't skipped
pub bad_stop : (skip : Bool) (path text : List ℕ) (b : Bad) (files : Option Files) (before now : ℕ) (stop : Stop) → skip ≡ false → HasBadCause text b → StopsFor path b stop
    → HasStopCause (λ m owed. (skip ≡ false) × IsRefusedFor path text owed) files before now stop
bad_stop skip path text bad.OutOfMemory files before now stop unskipped cause is = subst (HasStopCause (λ m owed. (skip ≡ false) × IsRefusedFor path text owed) files before now) (sym is) tt
bad_stop skip path text (bad.TooLarge n) files before now stop unskipped cause is =
    refused_stop (λ m owed. (skip ≡ false) × IsRefusedFor path text owed) (refusal.TooLarge path n) files before now stop is (any_files files (λ m. (unskipped, subst (λ k. IsRefusedFor path text (refusal.TooLarge path k)) (sym cause.1) (too_large cause.0))))
bad_stop skip path text (bad.Construct place what) files before now stop unskipped cause is =
    refused_stop (λ m owed. (skip ≡ false) × IsRefusedFor path text owed) (refusal.Construct path place.offset what) files before now stop is (any_files files (λ m. (unskipped, construct place.offset what cause.0 cause.1 cause.2)))
bad_stop skip path text (bad.At place) files before now stop unskipped cause is =
    refused_stop (λ m owed. (skip ≡ false) × IsRefusedFor path text owed) (refusal.NotInProfile path place.offset) files before now stop is (any_files files (λ m. (unskipped, not_in_profile place.offset cause.0 cause.1 cause.2)))

-- a file that has none is bad, where that is no want of memory
pub is_bad : (text : List ℕ) (b : Bad) → (b ≡ bad.OutOfMemory → ⊥) → HasBadCause text b → IsBad text
is_bad text bad.OutOfMemory some cause = absurd (some refl)
is_bad text (bad.TooLarge n) some cause = λ tree spelled. absurd (omega (arith, cause.0, spelled.fits))
is_bad text (bad.Construct place what) some cause = cause.0
is_bad text (bad.At place) some cause = cause.0

-- files that have a tree aren't bad, where such files aren't skipped
none_bad : (skip : Bool) (parsed : List Parsed) (sources : List Source) → skip ≡ false → map (λ (p : Parsed). p.source) parsed ≡ sources → All (IsParsed skip) parsed → All (λ s. IsBad s.text → ⊥) sources
none_bad skip parsed sources unskipped are read =
    subst (All (λ (s : Source). IsBad s.text → ⊥)) are
    (All-map (λ (s : Source). IsBad s.text → ⊥) (λ (p : Parsed). p.source) parsed (All-weaker (IsParsed skip) (λ p. IsBad p.source.text → ⊥) (λ p r. not_bad skip p.source.text p.tree p.skipped r unskipped) parsed read))

-- a stop for one file of a round, behind those that have a tree, is one for the round
pub bad_in : (skip : Bool) (parsed : List Parsed) (sources done : List Source) (source : Source) (behind : List Source) → map (λ (p : Parsed). p.source) parsed ≡ done → All (IsParsed skip) parsed
    → sources ≡ done ++ source ∷ behind → (stop : Stop) → ((files : Option Files) (before now : ℕ) → HasStopCause (λ m owed. (skip ≡ false) × IsRefusedFor source.path source.text owed) files before now stop)
    → (files : Option Files) (before now : ℕ) → HasStopCause (λ m owed. HasBad skip sources owed) files before now stop
bad_in skip parsed sources done source behind are read parts stop cause files before now = by stop (cause files before now)
  where
    by : (s : Stop) → HasStopCause (λ m owed. (skip ≡ false) × IsRefusedFor source.path source.text owed) files before now s → HasStopCause (λ m owed. HasBad skip sources owed) files before now s
    by stops.ReadFault c = c
    by stops.OutOfMemory c = tt
    by (stops.Refused owed line) c = (told files c.0 (λ m (unskipped, refused). record { unskipped = unskipped; front = done; source = source; behind = behind; parts = parts; none_bad = none_bad skip parsed done unskipped are read; refused = refused }), c.1)

-- a stop that came with no call of the folder is no fault of it
pub no_fault : (P : Files → Refusal → Type 0) (stop : Stop) → ((files : Option Files) (before now : ℕ) → HasStopCause P files before now stop) → (n : ℕ) → KeepsCount n n stop
no_fault P stops.ReadFault cause n = tt
no_fault P stops.OutOfMemory cause n = refl
no_fault P (stops.Refused owed line) cause n = refl

-- an item of a list of which all are so
pub all_at : {X : Type 0} (P : X → Type 0) (all done : List X) (x : X) (behind : List X) → all ≡ done ++ x ∷ behind → All P all → P x
all_at P all done x behind parts h = All-contains P all x h (subst (λ xs. Contains xs x) (sym parts) (Contains-append_right done (x ∷ behind) x (here x behind)))
