-- The text between quotes, and the value of a string without escapes.
use Rattle.std.proofs.Common.{◌≡◌, ℕ, ◌+◌, ◌-◌, ◌/◌, ◌%◌, ◌<◌, ◌≤◌, ◌==◌, Bool, true, false, ◌&&◌, ◌||◌, not, List, [], ◌∷◌, ◌++◌, map, length, take, drop, Option, Some, None, is_some, option_and_then, MatchOption, refl, sym, ap, ◌∙◌, subst, arith, true≢false, append-nil, length-append, ◌⊎◌, ⊎_elim, if◌then◌else◌}
use Rattle.std.specs.Char.{encode_utf8, IsScalar}
use Rattle.std.specs.Char.Escape.{encode_utf16}
use Rattle.std.specs.Char.Utf16.{utf16_chars}
use Rattle.std.specs.List.{fold, list_any}
use Rattle.std.specs.Option.{unwrap_or}
use Rattle.std.specs.Str.{IsUtf8, chars, encode_utf8_all}
use Rattle.std.proofs.Math.Seq.{take-append_seam}
use Rattle.std.proofs.Math.Utf8.{scalars, scalar_cases}
use Rattle.std.proofs.lemmas.List.{length-drop}
use Rattle.std.proofs.lemmas.Str.{chars_past_char, chars-nil, chars-append, IsUtf8-drop, IsUtf8-past_char, IsCharBoundary-from_take, utf16_chars-nil, utf16_chars_lone, utf16_chars_pair}
use Rattle.std.proofs.str.Utf16.{IsPair, one_unit, two_units, lone_unit_char_low, lone_unit_char_high}
use Rattle.js_tree.specs.declared.escape.ValuePart.{ValuePart}
use Rattle.js_tree.specs.declared.escape.ValuePart.TheVariants as part
use Rattle.js_tree.specs.declared.escape.ValueStep.{ValueStep}
use Rattle.js_tree.specs.Lexical.Value.{to, gives, next, units_of, units_from, may_end, units_in, text_of, value_in, between}

empty : (text : List ℕ) → length text ≡ 0 → text ≡ []
empty [] e = refl
empty (x ∷ xs) e = absurd (omega (arith, e))

-- without its first character
pub front_gone : {S : Type 0} (rest : S → List ℕ) (s t : S) (r : Option ℕ) → IsUtf8 (rest s) → MatchOption r ((length (rest s) ≡ 0) × (t ≡ s)) (λ c. rest s ≡ encode_utf8 c ++ rest t)
    → chars (rest t) ≡ drop 1 (chars (rest s))
front_gone rest s t None u h =
    let e = empty (rest s) h.0 in
    ap chars (ap rest h.1 ∙ e) ∙ chars-nil ∙ sym (ap (λ (xs : List ℕ). drop 1 (chars xs)) e ∙ ap (drop 1) chars-nil)
front_gone rest s t (Some c) u h = sym (ap (drop 1) (chars_past_char (rest s) (rest t) c u h))

pub front_utf8 : {S : Type 0} (rest : S → List ℕ) (s t : S) (r : Option ℕ) → IsUtf8 (rest s) → MatchOption r ((length (rest s) ≡ 0) × (t ≡ s)) (λ c. rest s ≡ encode_utf8 c ++ rest t)
    → IsUtf8 (rest t)
front_utf8 rest s t None u h = subst (λ x. IsUtf8 (rest x)) (sym h.1) u
front_utf8 rest s t (Some c) u h = IsUtf8-past_char (rest s) (rest t) c u h

drop-append_seam : (xs ys : List ℕ) → drop (length xs) (xs ++ ys) ≡ ys
drop-append_seam [] ys = refl
drop-append_seam (x ∷ xs) ys = drop-append_seam xs ys

-- without its last character
pub back_gone : {S : Type 0} (rest : S → List ℕ) (s t : S) (r : Option ℕ) → IsUtf8 (rest s) → IsUtf8 (rest t) → MatchOption r ((length (rest s) ≡ 0) × (t ≡ s)) (λ c. rest s ≡ rest t ++ encode_utf8 c)
    → chars (rest t) ≡ take (length (chars (rest s)) - 1) (chars (rest s))
back_gone rest s t None u v h =
    let e = empty (rest s) h.0 in
    ap chars (ap rest h.1 ∙ e) ∙ chars-nil ∙ sym (ap (λ (xs : List ℕ). take (length (chars xs) - 1) (chars xs)) e ∙ ap (λ (xs : List ℕ). take (length xs - 1) xs) chars-nil)
back_gone rest s t (Some c) u v h =
    let text = rest s in
    let left = rest t in
    let n : ℕ = length left in
    let fits : n ≤ length text = omega (arith, ap length h, length-append left (encode_utf8 c)) in
    let front : take n text ≡ left = ap (take n) h ∙ take-append_seam left (encode_utf8 c) in
    let back : drop n text ≡ encode_utf8 c = ap (drop n) h ∙ drop-append_seam left (encode_utf8 c) in
    let one : IsUtf8 (encode_utf8 c) = subst IsUtf8 back (IsUtf8-drop text n u (IsCharBoundary-from_take text n u fits (subst IsUtf8 (sym front) v))) in
    let last : chars (encode_utf8 c) ≡ c ∷ [] = chars_past_char (encode_utf8 c) [] c one (sym (append-nil (encode_utf8 c))) ∙ ap (λ (xs : List ℕ). c ∷ xs) chars-nil in
    let all : chars text ≡ chars left ++ c ∷ [] = ap chars h ∙ chars-append left (encode_utf8 c) v ∙ ap (λ (xs : List ℕ). chars left ++ xs) last in
    let less : length (chars text) - 1 ≡ length (chars left) = omega (arith, ap length all, length-append (chars left) (c ∷ [])) in
    sym (ap (λ (m : ℕ). take m (chars text)) less ∙ ap (take (length (chars left))) all ∙ take-append_seam (chars left) (c ∷ []))

pub between_is : (cs ds es : List ℕ) → ds ≡ drop 1 cs → es ≡ take (length ds - 1) ds → es ≡ between cs
between_is cs ds es a b =
    let n : length ds ≡ length cs - 1 = ap length a ∙ length-drop 1 cs in
    let m : length ds - 1 ≡ length cs - 2 = omega (arith, n) in
    b ∙ ap (λ (k : ℕ). take k ds) m ∙ ap (take (length cs - 2)) a

-- CHARACTERS AS CODE UNITS

one_char : (c : ℕ) (us : List ℕ) → IsScalar c → utf16_chars (encode_utf16 c ++ us) ≡ Some c ∷ utf16_chars us
one_char c us scalar =
    ⊎_elim low (λ h. ⊎_elim (middle h.0) (λ b. high b h.1) (below_or c)) (scalar_cases c scalar)
  where
    below_or : (n : ℕ) → (n < 0x1_0000) ⊎ (0x1_0000 ≤ n)
    below_or n = grind arith

    low : c < 0xD800 → utf16_chars (encode_utf16 c ++ us) ≡ Some c ∷ utf16_chars us
    low h = ap (λ (xs : List ℕ). utf16_chars (xs ++ us)) (one_unit c (omega arith)) ∙ utf16_chars_lone c us (λ p. absurd (omega (arith, p.0))) ∙ ap (λ o. o ∷ utf16_chars us) (lone_unit_char_low c h)

    middle : 0xE000 ≤ c → c < 0x1_0000 → utf16_chars (encode_utf16 c ++ us) ≡ Some c ∷ utf16_chars us
    middle h b = ap (λ (xs : List ℕ). utf16_chars (xs ++ us)) (one_unit c b) ∙ utf16_chars_lone c us (λ p. absurd (omega (arith, p.1))) ∙ ap (λ o. o ∷ utf16_chars us) (lone_unit_char_high c h)

    high : 0x1_0000 ≤ c → c < 0x11_0000 → utf16_chars (encode_utf16 c ++ us) ≡ Some c ∷ utf16_chars us
    high h b =
        let p : IsPair (0xD800 + (c - 0x1_0000) / 0x400) (0xDC00 + (c - 0x1_0000) % 0x400) = (omega arith, omega arith, omega arith, omega arith) in
        ap (λ (xs : List ℕ). utf16_chars (xs ++ us)) (two_units c h) ∙ utf16_chars_pair (0xD800 + (c - 0x1_0000) / 0x400) (0xDC00 + (c - 0x1_0000) % 0x400) us p
        ∙ ap (λ (x : ℕ). Some x ∷ utf16_chars us) (omega arith)

both_false : (a b : Bool) → (a || b) ≡ false → (a ≡ false) × (b ≡ false)
both_false true b h = absurd (true≢false h)
both_false false b h = (refl, h)

both_true : (a b : Bool) → (a && b) ≡ true → (a ≡ true) × (b ≡ true)
both_true true b h = (refl, h)
both_true false b h = absurd (true≢false (sym h))

-- a character that is no `\` gives itself
itself : (c : ℕ) → (c == 92) ≡ false → (if c == 92 then to part.Behind else gives c) ≡ gives c
itself c h = ap (λ (b : Bool). if b then to part.Behind else gives c) h

ends_plain : (cs : List ℕ) → list_any (λ c. c == 92) cs ≡ false → fold next part.Plain cs ≡ part.Plain
ends_plain [] h = refl
ends_plain (c ∷ cs) h =
    let b = both_false (c == 92) (list_any (λ c. c == 92) cs) h in
    ap (λ (s : ValueStep). fold next s.part cs) (itself c b.0) ∙ ends_plain cs b.1

units_plain : (cs : List ℕ) → scalars cs ≡ true → list_any (λ c. c == 92) cs ≡ false → utf16_chars (units_from part.Plain cs) ≡ map Some cs
units_plain [] s h = utf16_chars-nil
units_plain (c ∷ cs) s h =
    let b = both_false (c == 92) (list_any (λ c. c == 92) cs) h in
    let t = both_true _ (scalars cs) s in
    ap (λ (s : ValueStep). utf16_chars (units_of s.code ++ units_from s.part cs)) (itself c b.0)
    ∙ one_char c (units_from part.Plain cs) t.0 ∙ ap (λ (xs : List (Option ℕ)). Some c ∷ xs) (units_plain cs t.1 b.1)

none_unpaired : (cs : List ℕ) → list_any (λ o. not (is_some o)) (map (λ (c : ℕ). Some c) cs) ≡ false
none_unpaired [] = refl
none_unpaired (c ∷ cs) = none_unpaired cs

same_chars : (cs : List ℕ) → map (λ o. unwrap_or o 0xFFFD) (map (λ (c : ℕ). Some c) cs) ≡ cs
same_chars [] = refl
same_chars (c ∷ cs) = ap (λ (xs : List ℕ). c ∷ xs) (same_chars cs)

-- without a `\` the value is the text itself
pub plain_value : (cs : List ℕ) → scalars cs ≡ true → list_any (λ c. c == 92) cs ≡ false → Some (encode_utf8_all cs) ≡ value_in cs
plain_value cs s h =
    let us = units_from part.Plain cs in
    let decoded = units_plain cs s h in
    let whole : text_of us ≡ Some (encode_utf8_all cs) =
    (λ i. if list_any (λ o. not (is_some o)) (decoded i) then None else Some (encode_utf8_all (map (λ o. unwrap_or o 0xFFFD) (decoded i))))
    ∙ (λ i. if none_unpaired cs i then None else Some (encode_utf8_all (same_chars cs i))) in
    sym (ap (λ (p : ValuePart). option_and_then text_of (if may_end p then Some us else None)) (ends_plain cs h) ∙ whole)

-- READING

-- all characters were read, and their value may end there
pub all_units : (cs done : List ℕ) → done ≡ cs → (p : ValuePart) (units : List ℕ) → fold next part.Plain done ≡ p → ((more : List ℕ) → units ++ units_from p more ≡ units_from part.Plain (done ++ more)) → may_end p ≡ true
    → Some units ≡ units_in cs
all_units cs done e p units ends same h =
    let us : units ≡ units_from part.Plain cs = sym (append-nil units) ∙ same [] ∙ ap (units_from part.Plain) (append-nil done ∙ e) in
    let test : may_end (fold next part.Plain cs) ≡ true = ap (λ (xs : List ℕ). may_end (fold next part.Plain xs)) (sym e) ∙ ap may_end ends ∙ h in
    sym (ap (λ (b : Bool). if b then Some (units_from part.Plain cs) else None) test ∙ ap (λ (xs : List ℕ). Some xs) (sym us))

-- it may not end there
pub no_units : (cs done : List ℕ) → done ≡ cs → (p : ValuePart) → fold next part.Plain done ≡ p → may_end p ≡ false → None ≡ units_in cs
no_units cs done e p ends h =
    let test : may_end (fold next part.Plain cs) ≡ false = ap (λ (xs : List ℕ). may_end (fold next part.Plain xs)) (sym e) ∙ ap may_end ends ∙ h in
    sym (ap (λ (b : Bool). if b then Some (units_from part.Plain cs) else None) test)
