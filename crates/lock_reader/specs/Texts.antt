-- What follows one text in another.
use Rattle.std.specs.Prelude.{ℕ, ◌==◌, List, [], ◌∷◌, Option, Some, None, if◌then◌else◌}

-- what follows these bytes at the front of a text, if they stand there
unfoldable pub after_front : List ℕ → List ℕ → Option (List ℕ)
after_front [] text = Some text
after_front (b ∷ front) [] = None
after_front (b ∷ front) (c ∷ text) = if b == c then after_front front text else None

-- the first answer, where there is one, else the second
abbrev pub or_else : Option (List ℕ) → Option (List ℕ) → Option (List ℕ)
or_else (Some found) other = Some found
or_else None other = other

-- what follows the last of these marks in a text, if it has one; a mark has one byte at least
unfoldable pub after_last : List ℕ → List ℕ → Option (List ℕ)
after_last mark [] = None
after_last mark (b ∷ rest) = or_else (after_last mark rest) (after_front mark (b ∷ rest))
