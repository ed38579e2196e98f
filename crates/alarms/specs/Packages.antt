-- Advisories by the names of their packages.
use Rattle.std.specs.Prelude.{◌≡◌, ℕ, ◌+◌, ◌<◌, List, [], ◌∷◌, ◌++◌, length, slice_get, Some, if◌then◌else◌, unwrap_or}
use Rattle.std.specs.Borrow.{Bor}
use Rattle.std.specs.BTreeMap.{BTreeMap, get_by}
use Rattle.std.specs.Cmp.Lexicographic.{slice_cmp}
use Rattle.std.specs.Ordering.{nat_cmp}
use Rattle.std.specs.Str.{bytes_eq}
use Rattle.advisory_reader.specs.declared.advisory.Advisory.{Advisory}

-- a place, if the advisory there is on the package of this name
abbrev pub place_if : List ℕ → List ℕ → ℕ → List ℕ
place_if name «package» place = if bytes_eq name «package» then place ∷ [] else []

-- the places, counted from n, of the advisories on that package
abbrev pub places_from : ℕ → List ℕ → List Advisory → List ℕ
places_from n name [] = []
places_from n name (a ∷ more) = place_if name a.package n ++ places_from (n + 1) name more

abbrev pub places_of : List Advisory → List ℕ → List ℕ
places_of advisories name = places_from 0 name advisories

-- the places that are kept under a name
abbrev pub places_in : BTreeMap (Bor (List ℕ)) (List ℕ) → List ℕ → List ℕ
places_in kept name = unwrap_or (get_by (λ (k : Bor (List ℕ)). slice_cmp nat_cmp name k.now) kept) []

-- under each name are kept the places of the advisories on that package
abbrev pub AreKept : BTreeMap (Bor (List ℕ)) (List ℕ) → List Advisory → Type 0
AreKept kept advisories = (name : List ℕ) → places_in kept name ≡ places_of advisories name
