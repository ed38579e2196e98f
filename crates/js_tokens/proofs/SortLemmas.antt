-- What the first bytes of a text say of the tokens there.
use Rattle.std.proofs.Common.{◌≡◌, ℕ, zero, suc, ◌<◌, ◌==◌, ◌&&◌, ◌||◌, not, nat_le, Bool, true, false, List, [], ◌∷◌, ◌++◌, length, take, drop, get_or, refl, sym, ap, ◌∙◌, arith, true≢false, append_assoc, length-append, if◌then◌else◌}
use Rattle.std.proofs.lemmas.Bool.Decides.{nat_tests}
use Rattle.std.proofs.lemmas.List.{take-append-drop}
use Rattle.std.proofs.lemmas.Str.{chars-nil, chars_past_char, byte_from_char, char_from_byte, length-encode, len_utf8_bounds}
use Rattle.std.specs.Char.{encode_utf8}
use Rattle.std.specs.List.{fold}
use Rattle.std.specs.Str.{IsUtf8, chars, encode_utf8_all}
use Rattle.js_tree.specs.Lexical.{Reads, ReadsBytes, IsRegex, IsNumber, IsIdentifier}
use Rattle.js_tree.specs.Lexical.Character.{is_quote, is_digit, is_start}
use Rattle.js_tree.specs.Lexical.Name as name
use Rattle.js_tree.specs.Lexical.Number as number
use Rattle.js_tree.specs.Lexical.Regex as regex
use Rattle.js_tree.specs.Lexical.Template as template
use Rattle.js_tree.specs.declared.part.NumberPart.TheVariants as number_part
use Rattle.js_tree.specs.declared.part.RegexPart.TheVariants as regex_part
use Rattle.js_tree.specs.declared.part.TemplatePart.{TemplatePart}
use Rattle.js_tree.specs.declared.part.TemplatePart.TheVariants as template_part
use Rattle.js_tree.specs.declared.token.TokenClass.{TokenClass}
use Rattle.js_tree.specs.declared.token.TokenClass.TheVariants as class
use Rattle.js_tokens.proofs.Machine.{stuck}
use Rattle.js_tokens.specs.Fronts.{sort_by, sort_at, sort_of, admits, is_operand, is_template}
use Rattle.js_tokens.specs.Marks as marks
use Rattle.js_tokens.specs.declared.goal.Goal.{Goal}
use Rattle.js_tokens.specs.declared.goal.Goal.TheVariants as goal
use Rattle.js_tokens.specs.declared.goal.Sort.TheVariants as sort
use Rattle.js_tokens.specs.declared.mark.MarkPart.TheVariants as mark_part

-- what the sort says of the tests
str_by : (q t r x n i : Bool) → sort_by q t r x n i ≡ sort.Str → q ≡ true
str_by true t r x n i e = refl
str_by false true r x n i e = cc
str_by false false true x n i e = cc
str_by false false false true n i e = cc
str_by false false false false true i e = cc
str_by false false false false false true e = cc
str_by false false false false false false e = cc

pub str_sort : (g : Goal) (b next : ℕ) → sort_at g b next ≡ sort.Str → is_quote b ≡ true
str_sort g b next e = str_by (is_quote b) (b == 96) (b == 125 && is_template g) (b == 47 && is_operand g) (is_digit b || (b == 46 && is_digit next)) (nat_le 128 b || is_start b) e

rest_by : (q t r x n i : Bool) → sort_by q t r x n i ≡ sort.Rest → r ≡ true
rest_by true t r x n i e = cc
rest_by false true r x n i e = cc
rest_by false false true x n i e = refl
rest_by false false false true n i e = cc
rest_by false false false false true i e = cc
rest_by false false false false false true e = cc
rest_by false false false false false false e = cc

regex_by : (q t r x n i : Bool) → sort_by q t r x n i ≡ sort.Regex → x ≡ true
regex_by true t r x n i e = cc
regex_by false true r x n i e = cc
regex_by false false true x n i e = cc
regex_by false false false true n i e = refl
regex_by false false false false true i e = cc
regex_by false false false false false true e = cc
regex_by false false false false false false e = cc

-- of a mark no earlier test holds
record Plainly (r x n : Bool) : Type 0 where
  pub rest : r ≡ false
  pub regex : x ≡ false
  pub number : n ≡ false

mark_by : (q t r x n i : Bool) → sort_by q t r x n i ≡ sort.Mark → Plainly r x n
mark_by true t r x n i e = cc
mark_by false true r x n i e = cc
mark_by false false true x n i e = cc
mark_by false false false true n i e = cc
mark_by false false false false true i e = cc
mark_by false false false false false true e = cc
mark_by false false false false false false e = record { rest = refl; regex = refl; number = refl }

mark_at : (g : Goal) (b next : ℕ) → sort_at g b next ≡ sort.Mark → Plainly (b == 125 && is_template g) (b == 47 && is_operand g) (is_digit b || (b == 46 && is_digit next))
mark_at g b next e = mark_by (is_quote b) (b == 96) (b == 125 && is_template g) (b == 47 && is_operand g) (is_digit b || (b == 46 && is_digit next)) (nat_le 128 b || is_start b) e

right_of : (a b : Bool) → (a || b) ≡ false → b ≡ false
right_of true b e = absurd (true≢false e)
right_of false b e = e

second : (a b : Bool) → (a && b) ≡ true → b ≡ true
second true b e = e
second false b e = absurd (true≢false (sym e))

not_both : (a : Bool) → (a && true) ≡ false → not a ≡ true
not_both true e = absurd (true≢false e)
not_both false e = refl

-- a token of the sort is one of the goal
pub sort_admits : (g : Goal) (c : TokenClass) (b next : ℕ) → sort_of c ≡ sort_at g b next → admits g c b ≡ true
sort_admits g class.Regex b next e = second (b == 47) (is_operand g) (regex_by (is_quote b) (b == 96) (b == 125 && is_template g) (b == 47 && is_operand g) (is_digit b || (b == 46 && is_digit next)) (nat_le 128 b || is_start b) (sym e))
sort_admits g class.TemplateMiddle b next e = second (b == 125) (is_template g) (rest_by (is_quote b) (b == 96) (b == 125 && is_template g) (b == 47 && is_operand g) (is_digit b || (b == 46 && is_digit next)) (nat_le 128 b || is_start b) (sym e))
sort_admits g class.TemplateTail b next e = second (b == 125) (is_template g) (rest_by (is_quote b) (b == 96) (b == 125 && is_template g) (b == 47 && is_operand g) (is_digit b || (b == 46 && is_digit next)) (nat_le 128 b || is_start b) (sym e))
sort_admits goal.Operand class.Punct b next e = not_both (b == 47) (mark_at goal.Operand b next (sym e)).regex
sort_admits goal.Operator class.Punct b next e = refl
sort_admits goal.Template class.Punct b next e = not_both (b == 125) (mark_at goal.Template b next (sym e)).rest
sort_admits g class.Name b next e = refl
sort_admits g class.Word b next e = refl
sort_admits g class.Number b next e = refl
sort_admits g class.Str b next e = refl
sort_admits g class.TemplateWhole b next e = refl
sort_admits g class.TemplateHead b next e = refl
sort_admits g class.End b next e = refl

pub true_by : (b : Bool) → (b ≡ false → ⊥) → b ≡ true
true_by true h = refl
true_by false h = absurd (h refl)

pub false_by : (b : Bool) → (b ≡ true → ⊥) → b ≡ false
false_by true h = absurd (h refl)
false_by false h = refl

-- the first byte of a front that reads to an end leads on
pub leads : {S : Type 0} (next : S → ℕ → S) (may_end : S → Bool) (from dead : S) → ((c : ℕ) → next dead c ≡ dead) → may_end dead ≡ false → may_end from ≡ false
    → (text : List ℕ) (n : ℕ) → ReadsBytes next may_end from (take n text) → next from (get_or text 0 0) ≡ dead → ⊥
leads next may_end from dead stays never start text zero h e = true≢false (sym h ∙ start)
leads next may_end from dead stays never start [] (suc n) h e = true≢false (sym h ∙ start)
leads next may_end from dead stays never start (b ∷ bs) (suc n) h e =
    true≢false (sym h ∙ ap may_end (ap (λ s. fold next s (take n bs)) e ∙ stuck next may_end from dead stays never (take n bs)) ∙ never)

-- a part of a template begins with its mark
pub begins_mark : (mark : ℕ) (end : TemplatePart → Bool) → end template_part.Front ≡ false → end template_part.Broken ≡ false → (text : List ℕ) (n : ℕ)
    → ReadsBytes (template.next mark) end template_part.Front (take n text) → (get_or text 0 0 == mark) ≡ true
begins_mark mark end start never text n h =
    true_by (get_or text 0 0 == mark)
    (λ no_mark. leads (template.next mark) end template_part.Front template_part.Broken (λ _. refl) never start text n h
    (ap (λ b. if b then template_part.Within else template_part.Broken) no_mark))

pub same_number : (a b : ℕ) → (a == b) ≡ true → a ≡ b
same_number a b e = grind (arith, nat_tests)

-- what a number begins with
pub number_begins : (text : List ℕ) (n : ℕ) → IsNumber (take n text) → (is_digit (get_or text 0 0) || (get_or text 0 0 == 46 && is_digit (get_or text 1 0))) ≡ true
number_begins text zero h = absurd (true≢false (sym h))
number_begins [] (suc n) h = absurd (true≢false (sym h))
number_begins (b ∷ bs) (suc n) h =
    true_by (is_digit b || (b == 46 && is_digit (get_or bs 0 0))) (λ e. by_point (b == 46) refl e)
  where
    no_digit : (a p : Bool) → (a || p) ≡ false → a ≡ false
    no_digit true p e = absurd (true≢false e)
    no_digit false p e = refl

    front : is_digit b ≡ false → (b == 46) ≡ false → number.next number_part.Front b ≡ number_part.Broken
    front d p = grind (arith, nat_tests)

    point : is_digit b ≡ false → (b == 46) ≡ true → number.next number_part.Front b ≡ number_part.Point
    point d p = grind (arith, nat_tests)

    by_point : (p : Bool) → (b == 46) ≡ p → (is_digit b || (b == 46 && is_digit (get_or bs 0 0))) ≡ false → ⊥
    by_point false is e = leads number.next number.may_end number_part.Front number_part.Broken (λ _. refl) refl refl (b ∷ bs) (suc n) h (front (no_digit (is_digit b) _ e) is)
    by_point true is e =
        let next_digit : is_digit (get_or bs 0 0) ≡ false = ap (λ (x : Bool). x && is_digit (get_or bs 0 0)) (sym is) ∙ right_of (is_digit b) (b == 46 && is_digit (get_or bs 0 0)) e in
        leads number.next number.may_end number_part.Point number_part.Broken (λ _. refl) refl refl bs n
        (ap (λ s. number.may_end (fold number.next s (take n bs))) (sym (point (no_digit (is_digit b) _ e) is)) ∙ h)
        (ap (λ x. if x then number_part.Fraction else number_part.Broken) next_digit)

-- the first character of a front of a text
record First (text : List ℕ) (n : ℕ) : Type 0 where
  pub char : ℕ
  pub rest : List ℕ
  pub here : text ≡ encode_utf8 char ++ rest
  pub more : List ℕ
  pub reads : chars (take n text) ≡ char ∷ more

first : (text : List ℕ) (n : ℕ) (cs : List ℕ) → IsUtf8 (take n text) → encode_utf8_all cs ≡ take n text → (chars (take n text) ≡ [] → ⊥) → First text n
first text n [] u e some = absurd (some (ap chars (sym e) ∙ chars-nil))
first text n (c ∷ cs) u e some = record {
  char = c;
  rest = encode_utf8_all cs ++ drop n text;
  here = sym (take-append-drop n text) ∙ ap (λ (xs : List ℕ). xs ++ drop n text) (sym e) ∙ append_assoc (encode_utf8 c) (encode_utf8_all cs) (drop n text);
  more = chars (encode_utf8_all cs);
  reads = chars_past_char (take n text) (encode_utf8_all cs) c u (sym e);
}

-- the first character leads on
first_leads : {S : Type 0} (next : S → ℕ → S) (may_end : S → Bool) (from dead : S) → ((c : ℕ) → next dead c ≡ dead) → may_end dead ≡ false → may_end from ≡ false
    → (text : List ℕ) (n : ℕ) (r : Reads next may_end from (take n text)) → (f : First text n) × (next from f.char ≡ dead → ⊥)
first_leads next may_end from dead stays never start text n r =
    let f = first text n r.utf8.0 r.utf8 r.utf8.1.1 (λ none. true≢false (sym r.ends ∙ ap (λ (cs : List ℕ). may_end (fold next from cs)) none ∙ start)) in
    (f, λ e. true≢false (sym r.ends ∙ ap (λ (cs : List ℕ). may_end (fold next from cs)) f.reads ∙ ap (λ s. may_end (fold next s f.more)) e ∙ ap may_end (stuck next may_end from dead stays never f.more) ∙ never))

some_bytes : (text : List ℕ) (n : ℕ) → First text n → 0 < length text
some_bytes text n f = omega (arith, ap length f.here ∙ length-append (encode_utf8 f.char) f.rest, length-encode f.char, (len_utf8_bounds f.char).0)

pub identifier_begins : (text : List ℕ) (n : ℕ) → IsIdentifier (take n text) → (nat_le 128 (get_or text 0 0) || is_start (get_or text 0 0)) ≡ true
identifier_begins text n r =
    by_size (nat_le 128 (get_or text 0 0)) refl
  where
    f : (f : First text n) × (name.next name.Front f.char ≡ name.Broken → ⊥)
    f = first_leads name.next name.may_end name.Front name.Broken (λ _. refl) refl refl text n r

    begins_so : is_start f.0.char ≡ true
    begins_so = true_by (is_start f.0.char) (λ e. f.1 (ap (λ b. if b then name.Within else name.Broken) e))

    low : nat_le 128 (get_or text 0 0) ≡ false → get_or text 0 0 < 128
    low e = grind (arith, nat_tests)

    by_size : (b : Bool) → nat_le 128 (get_or text 0 0) ≡ b → (b || is_start (get_or text 0 0)) ≡ true
    by_size true e = refl
    by_size false e = ap is_start (sym (char_from_byte text f.0.rest f.0.char f.0.here (low e) (some_bytes text n f.0))) ∙ begins_so

pub regex_begins : (text : List ℕ) (n : ℕ) → IsRegex (take n text) → (get_or text 0 0 == 47) ≡ true
regex_begins text n r =
    let byte : get_or text 0 0 ≡ f.0.char = byte_from_char text f.0.rest f.0.char f.0.here (omega (arith, slash)) in
    ap (λ (b : ℕ). b == 47) (byte ∙ slash)
  where
    f : (f : First text n) × (regex.next regex_part.Front f.char ≡ regex_part.Broken → ⊥)
    f = first_leads regex.next regex.may_end regex_part.Front regex_part.Broken (λ _. refl) refl refl text n r

    slash : f.0.char ≡ 47
    slash = same_number f.0.char 47 (true_by (f.0.char == 47) (λ e. f.1 (ap (λ b. if b then regex_part.First else regex_part.Broken) e)))

-- what begins something else begins no mark
pub odd_quote : (b : ℕ) → is_quote b ≡ true → marks.brackets b ≡ mark_part.Broken
odd_quote b h = grind (arith, nat_tests)

pub odd_tick : (b : ℕ) → (b == 96) ≡ true → marks.brackets b ≡ mark_part.Broken
odd_tick b h = grind (arith, nat_tests)

pub odd_digit : (b : ℕ) → is_digit b ≡ true → marks.brackets b ≡ mark_part.Broken
odd_digit b h = grind (arith, nat_tests)
