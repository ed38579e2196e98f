-- How a text that was taken from a file is printed: no character of it can end a line or pass for an escape.
use Rattle.std.specs.Prelude.{ℕ, ◌/◌, ◌%◌, Bool, ◌||◌, cond, List, [], ◌∷◌, encode_utf8, nat_lt, nat_eq}
use Rattle.std.specs.List.{flat_map}
use Rattle.std.specs.Char.{digit_char}
use Rattle.std.specs.Str.{chars}

-- the characters that aren't printed as they are: those below U+0020, U+007F and `\`
abbrev pub is_escaped : ℕ → Bool
is_escaped c = nat_lt c 32 || nat_eq c 127 || nat_eq c 92

-- a code below 65536 in four lower-case hexadecimal digits
abbrev pub hexadecimal : ℕ → List ℕ
hexadecimal code = digit_char (code / 4096 % 16) ∷ digit_char (code / 256 % 16) ∷ digit_char (code / 16 % 16) ∷ digit_char (code % 16) ∷ []

-- a character as it is printed: `\u` and its code, or its own UTF-8
abbrev pub printed : ℕ → List ℕ
printed c = cond (is_escaped c) (92 ∷ 117 ∷ hexadecimal c) (encode_utf8 c)

-- a text as it is printed
abbrev pub escaped : List ℕ → List ℕ
escaped text = flat_map printed (chars text)
