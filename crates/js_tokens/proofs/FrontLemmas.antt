-- The token at the front of a text.
use Rattle.std.proofs.Common.{◌≡◌, ℕ, zero, suc, ◌+◌, ◌-◌, ◌<◌, ◌≤◌, ◌==◌, ◌&&◌, Bool, true, false, ⊎_elim, List, [], ◌∷◌, length, take, drop, get_or, refl, sym, ap, ◌∙◌, subst, arith, true≢false}
use Rattle.std.proofs.lemmas.Bool.{cases_order}
use Rattle.std.proofs.lemmas.Bool.Decides.{nat_tests}
use Rattle.std.proofs.lemmas.List.{get_or-take, drop_all}
use Rattle.std.proofs.lemmas.Str.{chars-nil, chars_past_char, IsUtf8-drop, IsCharBoundary-after_ascii}
use Rattle.std.specs.Str.{IsUtf8, IsCharBoundary, chars, bytes_eq}
use Rattle.js_tree.specs.Lexical.{IsNumber, IsIdentifier}
use Rattle.js_tree.specs.Lexical.Character.{begins}
use Rattle.js_tree.specs.Lexical.Mark.{is_mark}
use Rattle.js_tree.specs.Lexical.Name as name
use Rattle.js_tree.specs.Lexical.Number as number
use Rattle.js_tree.specs.Lexical.Regex as regex
use Rattle.js_tree.specs.declared.part.NumberPart.{NumberPart}
use Rattle.js_tree.specs.declared.part.NumberPart.TheVariants as number_part
use Rattle.js_tree.specs.declared.part.RegexPart.TheVariants as regex_part
use Rattle.js_tokens.proofs.MarkLemmas.{accepted, is_one}
use Rattle.js_tokens.specs.Marks as marks
use Rattle.js_tokens.specs.Placed.{IsPlaced}
use Rattle.js_tokens.specs.Reading.{IsCharAt}
use Rattle.js_tokens.specs.declared.mark.MarkPart.TheVariants as mark_part
use Rattle.js_tokens.specs.declared.reach.MarkEnd.{MarkEnd}
use Rattle.std.proofs.lemmas.List.Sums.{fold_more}
use Rattle.std.specs.List.{fold}
use Rattle.js_tree.specs.Lexical.{Stands, Reaches, ReadsBytes, IsClosed, IsRegex, are_right}
use Rattle.js_tree.specs.Lexical.Character.{is_quote, is_digit}
use Rattle.js_tree.specs.Lexical.Quoted as quoted
use Rattle.js_tree.specs.Lexing.{Longest}
use Rattle.js_tree.specs.declared.part.StringPart.TheVariants as quoted_part
use Rattle.js_tree.specs.declared.token.TokenClass.{TokenClass}
use Rattle.js_tree.specs.declared.token.TokenClass.TheVariants as class
use Rattle.js_tokens.specs.Fronts.{sort_of}
use Rattle.js_tokens.specs.Reading.{Reached}
use Rattle.js_tokens.specs.declared.goal.Sort.{Sort}
use Rattle.js_tokens.specs.declared.goal.Sort.TheVariants as sort

pub one_longest : (P : List ℕ → Type 0) (text : List ℕ) (m n : ℕ) → Longest P text m → Longest P text n → m ≡ n
one_longest P text m n a b =
    ⊎_elim (λ e. e) (⊎_elim (λ lt. absurd (a.none_longer n lt b.within b.holds)) (λ lt. absurd (b.none_longer m lt a.within a.holds))) (cases_order m n)

-- as far as a form reaches is its longest front
pub longest : (P : List ℕ → Type 0) (text : List ℕ) (n : ℕ) → Reached P text n → 0 < n → Longest P text n
longest P text n r some = record { within = r.within; holds = r.ends some; none_longer = r.none }

-- where a form reaches nowhere, no front is of it
pub nowhere : (P : List ℕ → Type 0) (text : List ℕ) (n : ℕ) → Reached P text n → n ≡ 0 → (P [] → ⊥) → (k : ℕ) → k ≤ length text → P (take k text) → ⊥
nowhere P text n r e empty zero le h = empty h
nowhere P text n r e empty (suc k) le h = r.none (suc k) (omega arith) le h

-- strings
pub closed_at : (text : List ℕ) (n : ℕ) → 0 < n → get_or (take n text) 0 0 ≡ get_or text 0 0
closed_at text n some = get_or-take n text 0 0 some

pub some_closed : (text : List ℕ) (k : ℕ) → IsClosed (take k text) → 0 < k
some_closed text zero h = absurd (true≢false (sym h.1))
some_closed text (suc k) h = omega arith

pub string_longest : (text : List ℕ) (n : ℕ) → Reached (ReadsBytes (quoted.next (get_or text 0 0)) quoted.may_end quoted_part.Front) text n → 0 < n → is_quote (get_or text 0 0) ≡ true → Longest IsClosed text n
string_longest text n r some q = record {
  within = r.within;
  holds = (ap is_quote (closed_at text n some) ∙ q, subst (λ (b : ℕ). ReadsBytes (quoted.next b) quoted.may_end quoted_part.Front (take n text)) (sym (closed_at text n some)) (r.ends some));
  none_longer = λ k lt le h. r.none k lt le (subst (λ (b : ℕ). ReadsBytes (quoted.next b) quoted.may_end quoted_part.Front (take k text)) (closed_at text k (some_closed text k h)) h.1);
}

-- what the tokens of a sort reach
pub reaches_number : (c : TokenClass) → sort_of c ≡ sort.Number → (t : List ℕ) → Reaches c t → IsNumber t
reaches_number class.Number e t h = h
reaches_number _ e t h = cc

pub reaches_identifier : (c : TokenClass) → sort_of c ≡ sort.Identifier → (t : List ℕ) → Reaches c t → IsIdentifier t
reaches_identifier class.Name e t h = h
reaches_identifier class.Word e t h = h
reaches_identifier _ e t h = cc

pub reaches_mark : (c : TokenClass) → sort_of c ≡ sort.Mark → (t : List ℕ) → Reaches c t → is_mark t ≡ true
reaches_mark class.Punct e t h = h
reaches_mark class.End e t h = absurd h
reaches_mark _ e t h = cc

-- where the form of a sort reaches nowhere, no token of the sort stands
pub none_of : (P : List ℕ → Type 0) (s : Sort) (text : List ℕ) (len : ℕ) → Reached P text len → len ≡ 0 → (P [] → ⊥)
    → ((c : TokenClass) → sort_of c ≡ s → (t : List ℕ) → Reaches c t → P t) → (c : TokenClass) (n : ℕ) → sort_of c ≡ s → Stands c text n → ⊥
none_of P s text len r e empty reaches c n is v = nowhere P text len r e empty n v.longest.within (reaches c is (take n text) v.longest.holds)

pub no_number : IsNumber [] → ⊥
no_number h = true≢false (sym h)

pub no_regex : IsRegex [] → ⊥
no_regex h = true≢false (sym h.ends ∙ ap (λ (cs : List ℕ). regex.may_end (fold regex.next regex_part.Front cs)) chars-nil)

pub no_identifier : IsIdentifier [] → ⊥
no_identifier h = true≢false (sym h.ends ∙ ap (λ (cs : List ℕ). name.may_end (fold name.next name.Front cs)) chars-nil)

pub wrong_string : (c : TokenClass) (text : List ℕ) (n len : ℕ) → sort_of c ≡ sort.Str → Longest IsClosed text len → are_right (take len text) ≡ false → Stands c text n → ⊥
wrong_string class.Str text n len e long wrong s =
    true≢false (sym s.right ∙ ap (λ (k : ℕ). are_right (take k text)) (one_longest IsClosed text n len s.longest long) ∙ wrong)
wrong_string _ text n len e long wrong s = cc

-- the last byte of a front that reads to an end
pub last_step : {S : Type 0} (next : S → ℕ → S) (may_end : S → Bool) (from : S) (text : List ℕ) (n : ℕ) → ReadsBytes next may_end from (take n text) → 0 < n → n ≤ length text
    → (s : S) × (may_end (next s (get_or text (n - 1) 0)) ≡ true)
last_step next may_end from text n h some le =
    let k : ℕ = n - 1 in
    let sum : k + 1 ≡ n = omega arith in
    let below : k < length text = omega arith in
    (fold next from (take k text), sym (ap may_end (ap (λ (j : ℕ). fold next from (take j text)) (sym sum) ∙ fold_more next from text k 0 below)) ∙ h)

ascii-Front : (c : ℕ) → number.may_end (number.next number_part.Front c) ≡ true → c < 128
ascii-Front c h = grind (arith, nat_tests)

ascii-Zero : (c : ℕ) → number.may_end (number.next number_part.Zero c) ≡ true → c < 128
ascii-Zero c h = grind (arith, nat_tests)

ascii-Leading : (c : ℕ) → number.may_end (number.next number_part.Leading c) ≡ true → c < 128
ascii-Leading c h = grind (arith, nat_tests)

ascii-Whole : (c : ℕ) → number.may_end (number.next number_part.Whole c) ≡ true → c < 128
ascii-Whole c h = grind (arith, nat_tests)

ascii-Point : (c : ℕ) → number.may_end (number.next number_part.Point c) ≡ true → c < 128
ascii-Point c h = grind (arith, nat_tests)

ascii-Fraction : (c : ℕ) → number.may_end (number.next number_part.Fraction c) ≡ true → c < 128
ascii-Fraction c h = grind (arith, nat_tests)

ascii-Exponent : (c : ℕ) → number.may_end (number.next number_part.Exponent c) ≡ true → c < 128
ascii-Exponent c h = grind (arith, nat_tests)

ascii-Sign : (c : ℕ) → number.may_end (number.next number_part.Sign c) ≡ true → c < 128
ascii-Sign c h = grind (arith, nat_tests)

ascii-Power : (c : ℕ) → number.may_end (number.next number_part.Power c) ≡ true → c < 128
ascii-Power c h = grind (arith, nat_tests)

ascii-based : (r c : ℕ) → number.may_end (number.based r c) ≡ true → c < 128
ascii-based r c h = grind (arith, nat_tests)

pub digit_ascii : (p : NumberPart) (c : ℕ) → number.may_end (number.next p c) ≡ true → c < 128
digit_ascii number_part.Front c h = ascii-Front c h
digit_ascii number_part.Zero c h = ascii-Zero c h
digit_ascii number_part.Leading c h = ascii-Leading c h
digit_ascii number_part.Whole c h = ascii-Whole c h
digit_ascii number_part.Point c h = ascii-Point c h
digit_ascii number_part.Fraction c h = ascii-Fraction c h
digit_ascii number_part.Exponent c h = ascii-Exponent c h
digit_ascii number_part.Sign c h = ascii-Sign c h
digit_ascii number_part.Power c h = ascii-Power c h
digit_ascii (number_part.Prefix r) c h = ascii-based r c h
digit_ascii (number_part.Digits r) c h = ascii-based r c h
digit_ascii number_part.Broken c h = absurd (true≢false (sym h))

-- a number ends where a character ends
pub number_boundary : (text : List ℕ) (n : ℕ) → IsUtf8 text → Reached IsNumber text n → 0 < n → IsCharBoundary text n
number_boundary text n u r some =
    let last = last_step number.next number.may_end number_part.Front text n (r.ends some) some r.within in
    let next : n - 1 + 1 ≡ n = omega arith in
    let le : n ≤ length text = r.within in
    subst (IsCharBoundary text) next (IsCharBoundary-after_ascii text (n - 1) u (omega arith) (digit_ascii last.0 _ last.1))

-- the character at a place is the first of what follows
pub begins_char : (p : ℕ → Bool) (text : List ℕ) (at c : ℕ) → IsUtf8 text → IsCharBoundary text at → IsCharAt text at c → begins p (chars (drop at text)) ≡ p c
begins_char p text at c u b here = ap (begins p) (chars_past_char (drop at text) here.rest c (IsUtf8-drop text at u b) here.here)

pub begins_none : (p : ℕ → Bool) (text : List ℕ) (at : ℕ) → length text ≤ at → begins p (chars (drop at text)) ≡ false
begins_none p text at all = ap (λ (xs : List ℕ). begins p (chars xs)) (drop_all at text all) ∙ ap (begins p) chars-nil

-- a mark
pub mark_none : (text : List ℕ) (len : ℕ) → Reached (ReadsBytes marks.next marks.may_end mark_part.Front) text len → len ≡ 0 → (c : TokenClass) (n : ℕ) → sort_of c ≡ sort.Mark → Stands c text n → ⊥
mark_none text len r e c n is v = nowhere (ReadsBytes marks.next marks.may_end mark_part.Front) text len r e (λ h. true≢false (sym h)) n v.longest.within (accepted (take n text) (reaches_mark c is (take n text) v.longest.holds))

and_false : (b : Bool) → (b && false) ≡ false
and_false true = refl
and_false false = refl

apart : (text : List ℕ) (n : ℕ) → (get_or text 0 0 == 46 && is_digit (get_or text 1 0)) ≡ false → (bytes_eq (46 ∷ []) (take n text) && begins is_digit (drop n text)) ≡ false
apart [] zero h = refl
apart [] (suc n) h = refl
apart (b ∷ bs) zero h = refl
apart (b ∷ []) (suc zero) h = and_false (bytes_eq (46 ∷ []) (b ∷ []))
apart (b ∷ []) (suc (suc n)) h = and_false (bytes_eq (46 ∷ []) (b ∷ []))
apart (b ∷ d ∷ bs) (suc zero) h = grind (arith, nat_tests)
apart (b ∷ d ∷ bs) (suc (suc n)) h = grind (arith, nat_tests)

pub mark_stands : (text : List ℕ) (m : MarkEnd) → Reached (ReadsBytes marks.next marks.may_end mark_part.Front) text m.len → IsPlaced text m → 0 < m.len
    → (get_or text 0 0 == 46 && is_digit (get_or text 1 0)) ≡ false → Stands class.Punct text m.len
mark_stands text m r placed some h = record {
  longest = record { within = r.within; holds = is_one text m r.within some placed; none_longer = λ k lt le is. r.none k lt le (accepted (take k text) is) };
  right = apart text m.len h;
}

pub string_reach : (text : List ℕ) (q n : ℕ) → q ≡ get_or text 0 0 → Reached (ReadsBytes (quoted.next q) quoted.may_end quoted_part.Front) text n
    → Reached (ReadsBytes (quoted.next (get_or text 0 0)) quoted.may_end quoted_part.Front) text n
string_reach text q n e r = subst (λ (b : ℕ). Reached (ReadsBytes (quoted.next b) quoted.may_end quoted_part.Front) text n) e r
