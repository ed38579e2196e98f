-- A place within a character is that of its front.
use Rattle.std.proofs.Common.{◌≡◌, ℕ, zero, suc, ◌+◌, ◌-◌, ◌*◌, ◌<◌, ◌≤◌, true, false, not, ⊎_elim, List, [], ◌∷◌, ◌++◌, length, take, drop, get_or, map, refl, sym, ap, subst, ◌∙◌, arith, append-nil, add-zero}
use Rattle.std.specs.Prelude.{◌==◌, ◌&&◌, ◌||◌, if◌then◌else◌}
use Rattle.std.specs.Char.{encode_utf8, len_utf8}
use Rattle.std.specs.Str.{IsUtf8, IsCharBoundary, chars, chars_after, continuation_len, lead_bits, encode_utf8_all, all_scalars}
use Rattle.std.proofs.lemmas.Bool.{and_parts, cases_lt}
use Rattle.std.proofs.lemmas.Bool.Decides.{nat_tests}
use Rattle.std.proofs.lemmas.List.{drop_all, take_all, get_or-drop, length-drop, length-take-le, map-append}
use Rattle.std.proofs.lemmas.Str.{chars-append, chars-nil, length-encode, len_utf8_bounds, IsUtf8-drop, IsUtf8-take, IsCharBoundary-after_ascii, IsCharBoundary-before_ascii, IsCharBoundary-past_char}
use Rattle.std.proofs.Math.Seq.{take-add}
use lib.Utf8.{scalar_cases}
use Rattle.std.proofs.str.Laws as laws
use Rattle.jam_base.specs.Place.{begins_with_line_feed, is_line_end, line_ends, last_line}
use Rattle.jam_app.specs.Printing.{spot_at}
use Rattle.jam_app.proofs.PrintLemmas.{more_mapped}

-- where fewer bytes stand than are to come, no character ends
short : (n c : ℕ) (bytes : List ℕ) → length bytes < n → chars_after n c bytes ≡ []
short zero c bytes lt = absurd (omega arith)
short (suc n) c [] lt = refl
short (suc n) c (b ∷ bytes) lt = short n (c * 64 + (b - 128)) bytes (omega arith)

short_front : (n b : ℕ) (bytes : List ℕ) → n ≡ continuation_len b → length bytes < n → chars (b ∷ bytes) ≡ []
unfolding chars
short_front n b bytes is lt = short (continuation_len b) (lead_bits b) bytes (omega (arith, is, lt))

-- nor among some of the bytes of one
cut_char : (c : ℕ) (rest : List ℕ) (j : ℕ) → laws.Shape c → j < length (encode_utf8 c) → chars (take j (encode_utf8 c ++ rest)) ≡ []
cut_char c rest zero s lt = chars-nil
cut_char c rest (suc j) (laws.of1 h e) lt = absurd (omega (arith, ap length e))
cut_char c rest (suc j) (laws.of2 a b l h f s e) lt =
    ap (λ bs. chars (take (suc j) (bs ++ rest))) e ∙ short_front 1 a (take j (b ∷ rest)) (grind arith) (omega (arith, ap length e, length-take-le j (b ∷ rest)))
cut_char c rest (suc j) (laws.of3 a b d l h f g s e) lt =
    ap (λ bs. chars (take (suc j) (bs ++ rest))) e ∙ short_front 2 a (take j (b ∷ d ∷ rest)) (grind arith) (omega (arith, ap length e, length-take-le j (b ∷ d ∷ rest)))
cut_char c rest (suc j) (laws.of4 a b d x l h f g k s e) lt =
    ap (λ bs. chars (take (suc j) (bs ++ rest))) e ∙ short_front 3 a (take j (b ∷ d ∷ x ∷ rest)) (grind arith) (omega (arith, ap length e, length-take-le j (b ∷ d ∷ x ∷ rest)))

-- of what follows only whether it begins with a line feed counts
same_begin : (cs xs ys : List ℕ) → begins_with_line_feed xs ≡ begins_with_line_feed ys → begins_with_line_feed (cs ++ xs) ≡ begins_with_line_feed (cs ++ ys)
same_begin [] xs ys e = e
same_begin (c ∷ cs) xs ys e = refl

same_ends : (cs xs ys : List ℕ) → begins_with_line_feed xs ≡ begins_with_line_feed ys → line_ends cs xs ≡ line_ends cs ys
same_ends [] xs ys e = refl
same_ends (c ∷ cs) xs ys e = λ i. (if is_line_end c || (c == 13 && not (same_begin cs xs ys e i)) then 1 else 0) + same_ends cs xs ys e i

same_last : (cs xs ys : List ℕ) → begins_with_line_feed xs ≡ begins_with_line_feed ys → last_line cs xs ≡ last_line cs ys
same_last [] xs ys e = refl
same_last (c ∷ cs) xs ys e = λ i. if same_ends (c ∷ cs) xs ys e i == 0 then c ∷ cs else same_last cs xs ys e i

no_line_feed : (xs : List ℕ) → 128 ≤ get_or xs 0 0 → begins_with_line_feed xs ≡ false
no_line_feed [] h = refl
no_line_feed (x ∷ xs) h = grind (arith, nat_tests)

same_spot : (text : List ℕ) (n k : ℕ) → chars (take n text) ≡ chars (take k text) → begins_with_line_feed (drop n text) ≡ begins_with_line_feed (drop k text) → spot_at text n ≡ spot_at text k
same_spot text n k front next =
    (λ i. record { line = line_ends (front i) (drop n text) + 1; column = length (last_line (front i) (drop n text)) + 1 })
    ∙ (λ i. record { line = same_ends (chars (take k text)) (drop n text) (drop k text) next i + 1; column = length (same_last (chars (take k text)) (drop n text) (drop k text) next i) + 1 })

-- the character at a place
char_at : (rest : List ℕ) → IsUtf8 rest → 0 < length rest → (c : ℕ) × (more : List ℕ) × (rest ≡ encode_utf8 c ++ more) × laws.Shape c
char_at rest u some = by u.0 u.1.0 u.1.1
  where
    by : (cs : List ℕ) → all_scalars cs ≡ true → encode_utf8_all cs ≡ rest → (c : ℕ) × (more : List ℕ) × (rest ≡ encode_utf8 c ++ more) × laws.Shape c
    by [] s e = absurd (omega (arith, ap length e))
    by (c ∷ cs) s e = (c, encode_utf8_all cs, sym e, laws.shape c (scalar_cases c (and_parts _ _ s).0))

-- behind the nearest boundary before it
module _ (text : List ℕ) (n k : ℕ) (u : IsUtf8 text) (here : IsCharBoundary text n) (nearest : (i : ℕ) → n < i → i ≤ k → IsCharBoundary text i → ⊥) where
  high_after : n < k → n < length text → 128 ≤ get_or text n 0
  high_after lt within = ⊎_elim
      (λ (low : get_or text n 0 < 128). absurd (nearest (n + 1) (omega arith) (omega (arith, lt)) (IsCharBoundary-after_ascii text n u within low)))
      (λ high. high)
      (cases_lt (get_or text n 0) 128)

  high_at : n < k → k < length text → 128 ≤ get_or text k 0
  high_at lt within = ⊎_elim
      (λ (low : get_or text k 0 < 128). absurd (nearest k lt (omega arith) (IsCharBoundary-before_ascii text k within low)))
      (λ high. high)
      (cases_lt (get_or text k 0) 128)

  byte_at : (i : ℕ) → get_or (drop i text) 0 0 ≡ get_or text i 0
  byte_at i = get_or-drop i text 0 0 ∙ ap (λ m. get_or text m 0) (add-zero i)

  inside : n < k → n < length text → spot_at text n ≡ spot_at text k
  inside lt within =
      let rest = drop n text in
      let ur : IsUtf8 rest = IsUtf8-drop text n u here in
      let char = char_at rest ur (omega (arith, length-drop n text, within)) in
      let end = IsCharBoundary-past_char text char.1 n char.0 here.0 ur char.2 in
      let before : k < n + len_utf8 char.0 = ⊎_elim (λ l. l) (λ le. absurd (nearest (n + len_utf8 char.0) (omega (arith, (len_utf8_bounds char.0).0)) le end)) (cases_lt k (n + len_utf8 char.0)) in
      let size : n + (k - n) ≡ k = omega (arith, lt) in
      let none : chars (take (k - n) rest) ≡ [] = ap (λ r. chars (take (k - n) r)) char.2 ∙ cut_char char.0 char.1 (k - n) char.3 (omega (arith, before, length-encode char.0, lt)) in
      let front : chars (take k text) ≡ chars (take n text) =
      ap (λ m. chars (take m text)) (sym size) ∙ ap chars (take-add n (k - n) text) ∙ chars-append (take n text) (take (k - n) rest) (IsUtf8-take text n u here)
      ∙ ap (λ cs. chars (take n text) ++ cs) none ∙ append-nil (chars (take n text)) in
      same_spot text n k (sym front)
      (no_line_feed rest (subst (λ b. 128 ≤ b) (sym (byte_at n)) (high_after lt within))
      ∙ sym (no_line_feed (drop k text) (subst (λ b. 128 ≤ b) (sym (byte_at k)) (high_at lt (omega (arith, before, end.0))))))

  past : length text ≤ n → n < k → spot_at text n ≡ spot_at text k
  past le lt = same_spot text n k
      (ap chars (take_all n text le ∙ sym (take_all k text (omega (arith, le, lt)))))
      (ap begins_with_line_feed (drop_all n text le ∙ sym (drop_all k text (omega (arith, le, lt)))))

  pub floor_spot : n ≤ k → spot_at text n ≡ spot_at text k
  floor_spot le = ⊎_elim
      (λ (lt : n < k). ⊎_elim (λ (within : n < length text). inside lt within) (λ (over : length text ≤ n). past over lt) (cases_lt n (length text)))
      (λ (ge : k ≤ n). let same : n ≡ k = omega (arith, le, ge) in ap (spot_at text) same)
      (cases_lt n k)

-- one more offset, by the nearest boundary before it
pub spots_more : (text made new offsets : List ℕ) (i k r : ℕ) → IsUtf8 text → r ≤ k → IsCharBoundary text r → ((j : ℕ) → r < j → j ≤ k → IsCharBoundary text j → ⊥) → i < length offsets → k ≡ get_or offsets i 0
    → new ≡ made ++ r ∷ [] → map (spot_at text) made ≡ map (spot_at text) (take i offsets) → map (spot_at text) new ≡ map (spot_at text) (take (i + 1) offsets)
spots_more text made new offsets i k r u bound here nearest lt at is spots =
    ap (map (spot_at text)) is ∙ map-append (spot_at text) made (r ∷ []) ∙ ap (λ xs. xs ++ spot_at text r ∷ []) spots
    ∙ more_mapped (spot_at text) [] offsets i 0 (spot_at text r) lt (floor_spot text r k u here nearest bound ∙ ap (spot_at text) at)
