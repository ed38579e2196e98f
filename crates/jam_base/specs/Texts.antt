-- What a text has, however it is kept.
use Rattle.std.specs.Prelude.{ℕ, List, string_bytes}
use Rattle.jam_base.specs.declared.text.Kept.{Kept}
use Rattle.jam_base.specs.declared.text.Kept.TheVariants as kept

-- the bytes of a text
abbrev pub bytes_of : Kept → List ℕ
bytes_of (kept.Inline text) = text.bytes
bytes_of (kept.Apart text) = string_bytes text
