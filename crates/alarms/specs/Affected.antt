-- Which functions of a package an advisory names.
use Rattle.std.specs.Prelude.{◌&&◌, ◌||◌, ℕ, Bool, List, [], ◌∷◌, unwrap_or}
use Rattle.std.specs.List.{list_any}
use Rattle.std.specs.Str.{bytes_eq}
use Rattle.lock_reader.specs.Owner.{within}
use Rattle.advisory_reader.specs.declared.advisory.Selector.{Selector}

-- a text of a selector fits another text: it is `*`, or that text
abbrev pub fits : List ℕ → List ℕ → Bool
fits pattern text = bytes_eq pattern (42 ∷ []) || bytes_eq pattern text

-- a selector names a function with this name in the file at this path inside the package
abbrev pub names : List ℕ → List ℕ → Selector → Bool
names inside name selector = fits selector.file inside && fits selector.name name

-- one of the selectors does
abbrev pub names_any : List ℕ → List ℕ → List Selector → Bool
names_any inside name selectors = list_any (names inside name) selectors

-- the path of a module inside the package at a location, which owns it
abbrev pub inside : List ℕ → List ℕ → List ℕ
inside location path = unwrap_or (within location path) []
