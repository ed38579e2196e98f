-- The value of a string (ECMA-262, 11.8.4, 'SV'). It is a list of code units; where each surrogate among them has its partner, they are a
-- text in UTF-16 (ECMA-262, 6.1.4 and 10.1).
use Rattle.std.specs.Prelude.{ℕ, ◌+◌, ◌-◌, ◌*◌, ◌==◌, nat_lt, Bool, true, false, if◌then◌else◌, List, [], ◌∷◌, ◌++◌, length, take, drop, Option, Some, None, option_and_then}
use Rattle.std.specs.Char.{digit_value}
use Rattle.std.specs.Char.Escape.{encode_utf16}
use Rattle.std.specs.Char.Utf16.{utf16_lossy_chars, has_unpaired_surrogate}
use Rattle.std.specs.List.{fold}
use Rattle.std.specs.Str.{chars, encode_utf8_all}
use Rattle.js_tree.specs.Lexical.Character.{is_line_end, is_digit, is_hex}
use Rattle.js_tree.specs.declared.escape.ValuePart.{ValuePart}
use Rattle.js_tree.specs.declared.escape.ValuePart.TheVariants as part
use Rattle.js_tree.specs.declared.escape.ValueStep.{ValueStep}

-- a character leads to the part, and stands for nothing by itself
abbrev pub to : ValuePart → ValueStep
to p = record { part = p; code = None }

-- a character ends what stands for this code
abbrev pub gives : ℕ → ValueStep
gives code = record { part = part.Plain; code = Some code }

-- outside escapes a character stands for itself
abbrev pub plain : ℕ → ValueStep
plain c = if c == 92 then to part.Behind else gives c

-- what a character behind a `\` stands for: `\b`, `\t`, `\n`, `\v`, `\f`, `\r`, and any other for itself
abbrev pub single : ℕ → ℕ
single c = if c == 98 then 8 else if c == 116 then 9 else if c == 110 then 10 else if c == 118 then 11 else if c == 102 then 12 else if c == 114 then 13 else c

-- behind a `\`: a line end stands for nothing, and `\1` to `\9` have no value
abbrev pub behind : ℕ → ValueStep
behind c = if c == 13 then to part.Returned else if is_line_end c then to part.Plain
    else if c == 48 then record { part = part.Zero; code = Some 0 } else if is_digit c then to part.Wrong
    else if c == 120 then to part.Hexadecimal else if c == 117 then to part.Unicode else gives (single c)

-- a hexadecimal digit leads on with its value
abbrev pub with_digit : (ℕ → ValueStep) → ℕ → ValueStep
with_digit on c = if is_hex c then on (digit_value c) else to part.Wrong

-- in `\u{`, behind digits of this value, where it is a code point so far
abbrev pub braced : ℕ → ValueStep
braced value = to (if nat_lt value 0x110000 then part.Braced value else part.Wrong)

-- where a character leads a reader, and the code point or code unit that it ends
abbrev pub step : ValuePart → ℕ → ValueStep
step part.Plain c = plain c
step part.Behind c = behind c
step part.Returned c = if c == 10 then to part.Plain else plain c
step part.Zero c = if is_digit c then to part.Wrong else plain c
step part.Hexadecimal c = with_digit (λ d. to (part.One d)) c
step part.Unicode c = if c == 123 then to part.Open else with_digit (λ d. to (part.Three d)) c
step (part.Three value) c = with_digit (λ d. to (part.Two (16 * value + d))) c
step (part.Two value) c = with_digit (λ d. to (part.One (16 * value + d))) c
step (part.One value) c = with_digit (λ d. gives (16 * value + d)) c
step part.Open c = with_digit braced c
step (part.Braced value) c = if c == 125 then gives value else with_digit (λ d. braced (16 * value + d)) c
step part.Wrong c = to part.Wrong

abbrev pub next : ValuePart → ℕ → ValuePart
next p c = (step p c).part

-- a value may end there
abbrev pub may_end : ValuePart → Bool
may_end part.Plain = true
may_end part.Returned = true
may_end part.Zero = true
may_end _ = false

-- the code units of a code point, if one is given (ECMA-262, 10.1.1)
abbrev pub units_of : Option ℕ → List ℕ
units_of None = []
units_of (Some code) = encode_utf16 code

-- the code units that characters stand for, from a part on
abbrev pub units_from : ValuePart → List ℕ → List ℕ
units_from p [] = []
units_from p (c ∷ cs) = units_of (step p c).code ++ units_from (next p c) cs

-- the text that code units are in UTF-16: none where a surrogate has no partner (ECMA-262, 10.1.2)
abbrev pub text_of : List ℕ → Option (List ℕ)
text_of units = if has_unpaired_surrogate units then None else Some (encode_utf8_all (utf16_lossy_chars units))

-- the code units that the characters between the quotes stand for, where each escape has a value
abbrev pub units_in : List ℕ → Option (List ℕ)
units_in cs = if may_end (fold next part.Plain cs) then Some (units_from part.Plain cs) else None

-- the text that they are
abbrev pub value_in : List ℕ → Option (List ℕ)
value_in cs = option_and_then text_of (units_in cs)

-- without the first and the last
abbrev pub between : List ℕ → List ℕ
between cs = take (length cs - 2) (drop 1 cs)

-- the value of a string: none where a surrogate has no partner, where `\` stands before 1 to 9, and where `\0` stands before a digit
abbrev pub value_of : List ℕ → Option (List ℕ)
value_of text = value_in (between (chars text))

-- numbers that were read so far are below their bounds
abbrev pub is_low : ValuePart → Bool
is_low (part.Three value) = nat_lt value 16
is_low (part.Two value) = nat_lt value 256
is_low (part.One value) = nat_lt value 4096
is_low (part.Braced value) = nat_lt value 0x110000
is_low _ = true
