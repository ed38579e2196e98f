-- Numbers (ECMA-262, 11.8.3 and B.1.1).
use Rattle.std.specs.Prelude.{ℕ, ◌==◌, ◌||◌, ◌&&◌, Bool, true, false, if◌then◌else◌}
use Rattle.std.specs.Char.{is_digit as is_digit_of}
use Rattle.js_tree.specs.Lexical.Character.{is_digit, is_hex}
use Rattle.js_tree.specs.declared.part.NumberPart.{NumberPart}
use Rattle.js_tree.specs.declared.part.NumberPart.TheVariants as part

abbrev pub is_e : ℕ → Bool
is_e c = c == 101 || c == 69

-- behind a `0` and the letter of a base, in either case
abbrev pub behind_letter : ℕ → NumberPart
behind_letter c = if c == 120 || c == 88 then part.Prefix 16 else if c == 111 || c == 79 then part.Prefix 8 else if c == 98 || c == 66 then part.Prefix 2 else part.Broken

abbrev pub behind_zero : ℕ → NumberPart
behind_zero c = if is_digit c then part.Leading else if c == 46 then part.Fraction else if is_e c then part.Exponent else behind_letter c

-- before or in the digits of a radix up to 16
abbrev pub based : ℕ → ℕ → NumberPart
based radix c = if is_hex c && is_digit_of c radix then part.Digits radix else part.Broken

-- where a character leads
abbrev pub next : NumberPart → ℕ → NumberPart
next part.Front c = if c == 48 then part.Zero else if is_digit c then part.Whole else if c == 46 then part.Point else part.Broken
next part.Zero c = behind_zero c
next part.Leading c = if is_digit c then part.Leading else part.Broken
next part.Whole c = if is_digit c then part.Whole else if c == 46 then part.Fraction else if is_e c then part.Exponent else part.Broken
next part.Point c = if is_digit c then part.Fraction else part.Broken
next part.Fraction c = if is_digit c then part.Fraction else if is_e c then part.Exponent else part.Broken
next part.Exponent c = if is_digit c then part.Power else if c == 43 || c == 45 then part.Sign else part.Broken
next part.Sign c = if is_digit c then part.Power else part.Broken
next part.Power c = if is_digit c then part.Power else part.Broken
next (part.Prefix radix) c = based radix c
next (part.Digits radix) c = based radix c
next part.Broken c = part.Broken

-- a number may end there
abbrev pub may_end : NumberPart → Bool
may_end part.Zero = true
may_end part.Leading = true
may_end part.Whole = true
may_end part.Fraction = true
may_end part.Power = true
may_end (part.Digits b) = true
may_end _ = false
