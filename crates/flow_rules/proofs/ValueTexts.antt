-- The value of a string isn't much longer than the string.
use Rattle.std.proofs.Common.{◌≡◌, ℕ, zero, suc, ◌+◌, ◌*◌, ◌/◌, ◌%◌, ◌≤◌, Bool, true, false, ◌&&◌, nat_lt, cond, List, [], ◌∷◌, ◌-◌, take, drop, length, length-append, arith, Option, Some, None, option_and_then, if◌then◌else◌}
use Rattle.std.specs.Char.Escape.{encode_utf16}
use Rattle.std.specs.Char.Utf16.{has_unpaired_surrogate, is_high_surrogate, is_low_surrogate, lone_unit_char, surrogate_pair_char, utf16_chars, utf16_lossy_chars}
use Rattle.std.specs.List.{fold}
use Rattle.std.specs.Option.{unwrap_or}
use Rattle.std.specs.Str.{chars, chars_after, continuation_len, encode_utf8_all, lead_bits}
use Rattle.std.proofs.Math.Utf8.{encode}
use Rattle.std.proofs.lemmas.List.{length-drop, length-map}
use Rattle.std.proofs.lemmas.Str.{length-encode}
use Rattle.js_tree.specs.declared.escape.ValuePart.{ValuePart}
use Rattle.js_tree.specs.declared.escape.ValuePart.TheVariants as part
use Rattle.js_tree.specs.Lexical.Value.{between, may_end, next, step, text_of, units_from, units_of, value_in, value_of}
use Rattle.js_tree.specs.Spells.{limit}
use Rattle.flow_rules.specs.Rules.{IsShort}

one_or_two : (b : Bool) (x y z : ℕ) → length (cond b (x ∷ []) (y ∷ z ∷ [])) ≤ 2
one_or_two true x y z = omega arith
one_or_two false x y z = omega arith

unit_few : (c : ℕ) → length (encode_utf16 c) ≤ 2
unit_few c = one_or_two (nat_lt c 0x1_0000) c (0xD800 + (c - 0x1_0000) / 0x400) (0xDC00 + (c - 0x1_0000) % 0x400)

take_few : (k : ℕ) (xs : List ℕ) → length (take k xs) ≤ length xs
take_few zero xs = omega arith
take_few (suc k) [] = omega arith
take_few (suc k) (x ∷ xs) = let a = take_few k xs in omega (arith, a)

units_few : (p : ValuePart) (cs : List ℕ) → length (units_from p cs) ≤ 2 * length cs
units_few p [] = omega arith
units_few p (c ∷ cs) =
    let a = one (step p c).code in
    let b = units_few (next p c) cs in
    let d = length-append (units_of (step p c).code) (units_from (next p c) cs) in
    omega (arith, a, b, d)
  where
    one : (o : Option ℕ) → length (units_of o) ≤ 2
    one None = omega arith
    one (Some code) = unit_few code

pairs_few : (us : List ℕ) → length (utf16_chars us) ≤ length us
unfolding utf16_chars
pairs_few [] = omega arith
pairs_few (u ∷ []) = omega arith
pairs_few (u ∷ v ∷ us) = by (is_high_surrogate u && is_low_surrogate v) (pairs_few us) (pairs_few (v ∷ us))
  where
    by : (b : Bool) → length (utf16_chars us) ≤ length us → length (utf16_chars (v ∷ us)) ≤ length (v ∷ us)
        → length (if b then Some (surrogate_pair_char u v) ∷ utf16_chars us else lone_unit_char u ∷ utf16_chars (v ∷ us)) ≤ length (u ∷ v ∷ us)
    by true a b = omega (arith, a)
    by false a b = omega (arith, b)

code_few : (c : ℕ) → length (encode c) ≤ 4
code_few c = let e = length-encode c in by (nat_lt c 0x80) (nat_lt c 0x800) (nat_lt c 0x1_0000) e
  where
    by : (x y z : Bool) → length (encode c) ≡ cond x 1 (cond y 2 (cond z 3 4)) → length (encode c) ≤ 4
    by true y z e = omega (arith, e)
    by false true z e = omega (arith, e)
    by false false true e = omega (arith, e)
    by false false false e = omega (arith, e)

bytes_few : (cs : List ℕ) → length (encode_utf8_all cs) ≤ 4 * length cs
bytes_few [] = omega arith
bytes_few (c ∷ cs) = let a = code_few c in let b = bytes_few cs in let d = length-append (encode c) (encode_utf8_all cs) in omega (arith, a, b, d)

abbrev pub IsShortIfAny : Option (List ℕ) → Type 0
IsShortIfAny None = Unit {0}
IsShortIfAny (Some text) = IsShort text

abbrev IsAtMost : ℕ → Option (List ℕ) → Type 0
IsAtMost k None = Unit {0}
IsAtMost k (Some text) = length text ≤ k

text_few : (us : List ℕ) → IsAtMost (4 * length us) (text_of us)
text_few us = by (has_unpaired_surrogate us)
  where
    by : (b : Bool) → IsAtMost (4 * length us) (if b then None else Some (encode_utf8_all (utf16_lossy_chars us)))
    by true = tt
    by false =
        let a = pairs_few us in
        let b = length-map (utf16_chars us) (λ o. unwrap_or o 0xFFFD) in
        let c = bytes_few (utf16_lossy_chars us) in
        omega (arith, a, b, c)

more : (j k : ℕ) (o : Option (List ℕ)) → j ≤ k → IsAtMost j o → IsAtMost k o
more j k None le h = tt
more j k (Some text) le h = omega (arith, le, h)

value_few : (cs : List ℕ) → IsAtMost (8 * length cs) (value_in cs)
value_few cs = by (may_end (fold next part.Plain cs))
  where
    by : (b : Bool) → IsAtMost (8 * length cs) (option_and_then text_of (if b then Some (units_from part.Plain cs) else None))
    by true = let a = units_few part.Plain cs in more (4 * length (units_from part.Plain cs)) (8 * length cs) (text_of (units_from part.Plain cs)) (omega (arith, a)) (text_few (units_from part.Plain cs))
    by false = tt

characters_after : (n c : ℕ) (bs : List ℕ) → length (chars_after n c bs) ≤ length bs + 1
characters_after zero c [] = omega arith
characters_after zero c (b ∷ bs) = omega (arith, characters_after (continuation_len b) (lead_bits b) bs)
characters_after (suc n) c [] = omega arith
characters_after (suc n) c (b ∷ bs) = omega (arith, characters_after n (c * 64 + (b - 128)) bs)

-- a text has no more characters than bytes
characters_few : (bs : List ℕ) → length (chars bs) ≤ length bs
unfolding chars
characters_few [] = omega arith
characters_few (b ∷ bs) = omega (arith, characters_after (continuation_len b) (lead_bits b) bs)

-- the value of a string of a text is short
pub short_value : (text : List ℕ) → length text ≤ limit → IsShortIfAny (value_of text)
short_value text le = by (value_of text) (value_few (between (chars text)))
  where
    within : length (between (chars text)) ≤ length text
    within = let a = characters_few text in let b = length-drop 1 (chars text) in let c = take_few (length (chars text) - 2) (drop 1 (chars text)) in omega (arith, a, b, c)

    by : (o : Option (List ℕ)) → IsAtMost (8 * length (between (chars text))) o → IsShortIfAny o
    by None h = tt
    by (Some v) h = let w = within in omega (arith, le, h, w)
