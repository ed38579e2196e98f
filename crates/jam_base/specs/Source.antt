-- The text that bytes are read as (the Unicode Standard, 3.9 and 23.8).
use Rattle.std.specs.Prelude.{ℕ, List, [], ◌∷◌, drop, nat_eq, if◌then◌else◌}
use Rattle.std.specs.List.{starts_with}
use Rattle.std.specs.Str.Lossy.{utf8_lossy}

-- U+FEFF in UTF-8
abbrev pub mark : List ℕ
mark = 0xEF ∷ 0xBB ∷ 0xBF ∷ []

-- the text without a U+FEFF at its very front
abbrev pub without_mark : List ℕ → List ℕ
without_mark text = if starts_with nat_eq text mark then drop 3 text else text

-- where no well-formed sequence begins, the longest prefix there of a well-formed sequence, at least one byte, is one
-- U+FFFD; a U+FEFF at the very front is then dropped
abbrev pub source_of : List ℕ → List ℕ
source_of bytes = without_mark (utf8_lossy bytes)
