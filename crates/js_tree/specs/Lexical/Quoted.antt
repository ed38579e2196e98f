-- Strings (ECMA-262, 11.8.4). What matters here is ASCII, so that these read bytes: those of other characters are past 127.
use Rattle.std.specs.Prelude.{ℕ, ◌+◌, ◌*◌, ◌-◌, ◌==◌, ◌||◌, nat_le, nat_lt, Bool, true, false, if◌then◌else◌}
use Rattle.std.specs.Char.{digit_value}
use Rattle.js_tree.specs.Lexical.Character.{is_hex}
use Rattle.js_tree.specs.declared.part.StringPart.{StringPart}
use Rattle.js_tree.specs.declared.part.StringPart.TheVariants as part
use Rattle.js_tree.specs.declared.part.EscapePart.{EscapePart}
use Rattle.js_tree.specs.declared.part.EscapePart.TheVariants as escape

abbrev pub within : ℕ → ℕ → StringPart
within quote c = if c == quote then part.Closed else if c == 92 then part.Passing else if c == 10 || c == 13 then part.Broken else part.Within

-- where a character leads in a string with this quote
abbrev pub next : ℕ → StringPart → ℕ → StringPart
next quote part.Front c = if c == quote then part.Within else part.Broken
next quote part.Within c = within quote c
next quote part.Passing c = if c == 13 then part.Returned else part.Within
next quote part.Returned c = if c == 10 then part.Within else within quote c
next quote part.Closed c = part.Broken
next quote part.Broken c = part.Broken

abbrev pub may_end : StringPart → Bool
may_end part.Closed = true
may_end _ = false

-- behind `\u{` and digits, where they are a character's code so far
abbrev pub braced : ℕ → EscapePart
braced value = if nat_le value 0x10FFFF then escape.Braced value else escape.Wrong

-- where a character leads: `\x` needs two hexadecimal digits, `\u` four or `{..}` up to 10FFFF
abbrev pub in_escape : EscapePart → ℕ → EscapePart
in_escape escape.Plain c = if c == 92 then escape.Behind else escape.Plain
in_escape escape.Behind c = if c == 120 then escape.Digits 2 else if c == 117 then escape.Unicode else escape.Plain
in_escape escape.Unicode c = if c == 123 then escape.Open else if is_hex c then escape.Digits 3 else escape.Wrong
in_escape (escape.Digits n) c = if is_hex c then (if n == 1 then escape.Plain else escape.Digits (n - 1)) else escape.Wrong
in_escape escape.Open c = if is_hex c then braced (digit_value c) else escape.Wrong
in_escape (escape.Braced value) c = if c == 125 then escape.Plain else if is_hex c then braced (16 * value + digit_value c) else escape.Wrong
in_escape escape.Wrong c = escape.Wrong

abbrev pub is_plain : EscapePart → Bool
is_plain escape.Plain = true
is_plain _ = false

-- a value that was read so far is a character's code
abbrev pub is_low : EscapePart → Bool
is_low (escape.Braced value) = nat_lt value 1114112
is_low _ = true
