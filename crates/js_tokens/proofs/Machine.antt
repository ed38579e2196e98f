-- Reading on, character by character or byte by byte, as far as a form reaches.
use Rattle.std.proofs.Common.{◌≡◌, ℕ, suc, drop-cons, ◌+◌, ◌-◌, ◌<◌, ◌≤◌, Bool, true, false, if◌then◌else◌, ⊎_elim, List, [], ◌∷◌, ◌++◌, length, take, drop, get_or, refl, sym, ap, ◌∙◌, subst, arith, true≢false, append-nil, append_assoc, length-append}
use Rattle.std.proofs.lemmas.Bool.{cases_order}
use Rattle.std.proofs.lemmas.Bool.Decides.{nat_tests}
use Rattle.std.proofs.lemmas.List.{length-take-le, drop-take, take-take, length-drop, take-append-drop}
use Rattle.std.proofs.lemmas.List.Sums.{fold-append, fold_more}
use Rattle.std.proofs.Math.Seq.{take-add}
use Rattle.std.proofs.lemmas.Str.{encode_ascii, chars-append, chars_past_char, chars-nil, IsUtf8-append, IsUtf8-encode, IsUtf8-nil, IsUtf8-drop, IsCharBoundary-from_take, length-encode, encode_same}
use Rattle.std.specs.Char.{encode_utf8, IsScalar, len_utf8}
use Rattle.std.specs.List.{fold}
use Rattle.std.specs.Str.{IsUtf8, chars, encode_utf8_all}
use Rattle.js_tree.specs.Lexical.{Reads, ReadsBytes}
use Rattle.js_tokens.specs.Reading.{IsCharAt, Sofar, SofarBytes, Reached}

-- a longer front of the text goes on with the character at n
pub record Onward (text : List ℕ) (n k c : ℕ) : Type 0 where
  pub more : List ℕ
  pub reads : chars (take k text) ≡ chars (take n text) ++ c ∷ more
  pub far : n + len_utf8 c ≤ k

-- some bytes of a text begin with its first character
record Begun (mid : List ℕ) (c : ℕ) : Type 0 where
  pub more : List ℕ
  pub reads : chars mid ≡ c ∷ more
  pub far : len_utf8 c ≤ length mid

begun : (cs mid behind tail : List ℕ) (c : ℕ) → IsUtf8 mid → encode_utf8_all cs ≡ mid → 0 < length mid → mid ++ behind ≡ encode_utf8 c ++ tail → Begun mid c
begun [] mid behind tail c u e some whole = absurd (omega (arith, ap length e))
begun (d ∷ ds) mid behind tail c u e some whole =
    let split : encode_utf8 d ++ (encode_utf8_all ds ++ behind) ≡ encode_utf8 c ++ tail =
    sym (append_assoc (encode_utf8 d) (encode_utf8_all ds) behind) ∙ ap (λ (xs : List ℕ). xs ++ behind) e ∙ whole in
    let same = encode_same d c (encode_utf8_all ds ++ behind) tail split in
    record {
      more = chars (encode_utf8_all ds);
      reads = chars_past_char mid (encode_utf8_all ds) d u (sym e) ∙ ap (λ (x : ℕ). x ∷ chars (encode_utf8_all ds)) same.0;
      far = subst (λ (x : ℕ). len_utf8 x ≤ length mid) same.0 (omega (arith, ap length e, length-append (encode_utf8 d) (encode_utf8_all ds), length-encode d));
    }

pub onward : (text : List ℕ) (n k c : ℕ) → IsUtf8 (take n text) → IsUtf8 (take k text) → n < k → k ≤ length text → IsCharAt text n c → Onward text n k c
onward text n k c un uk lt le here =
    let m : ℕ = k - n in
    let sum : n + m ≡ k = omega arith in
    let long : length (take k text) ≡ k = length-take-le k text le in
    let front : take n (take k text) ≡ take n text = take-take n k text (omega arith) in
    let cut : drop n (take k text) ≡ take m (drop n text) = ap (λ (j : ℕ). drop n (take j text)) (sym sum) ∙ drop-take n m text in
    let mid : List ℕ = take m (drop n text) in
    let um : IsUtf8 mid = subst IsUtf8 cut (IsUtf8-drop (take k text) n uk (IsCharBoundary-from_take (take k text) n uk (omega arith) (subst IsUtf8 (sym front) un))) in
    let size : length mid ≡ m = length-take-le m (drop n text) (omega (arith, length-drop n text)) in
    let b = begun um.0 mid (drop m (drop n text)) here.rest c um um.1.1 (omega arith) (take-append-drop m (drop n text) ∙ here.here) in
    record {
      more = b.more;
      reads = ap (λ (j : ℕ). chars (take j text)) (sym sum) ∙ ap chars (take-add n m text) ∙ chars-append (take n text) mid un ∙ ap (λ (xs : List ℕ). chars (take n text) ++ xs) b.reads;
      far = omega (arith, b.far);
    }

-- the text up to the end of the character at n
pub record Past (text : List ℕ) (n c : ℕ) : Type 0 where
  pub within : n + len_utf8 c ≤ length text
  pub utf8 : IsUtf8 (take (n + len_utf8 c) text)
  pub reads : chars (take (n + len_utf8 c) text) ≡ chars (take n text) ++ c ∷ []

pub past : (text : List ℕ) (n c : ℕ) → n ≤ length text → IsUtf8 (take n text) → IsCharAt text n c → Past text n c
past text n c le un here =
    let w : ℕ = len_utf8 c in
    let size : length (encode_utf8 c) ≡ w = length-encode c in
    let all : length (drop n text) ≡ length (encode_utf8 c) + length here.rest = ap length here.here ∙ length-append (encode_utf8 c) here.rest in
    let mid : take w (drop n text) ≡ encode_utf8 c = ap (take w) here.here ∙ ap (λ (j : ℕ). take j (encode_utf8 c ++ here.rest)) (sym size) ∙ front (encode_utf8 c) here.rest in
    let whole : take (n + w) text ≡ take n text ++ encode_utf8 c = take-add n w text ∙ ap (λ (xs : List ℕ). take n text ++ xs) mid in
    let one : IsUtf8 (encode_utf8 c) = IsUtf8-encode c here.scalar in
    record {
      within = omega (arith, all, size, length-drop n text);
      utf8 = subst IsUtf8 (sym whole) (IsUtf8-append (take n text) (encode_utf8 c) un one);
      reads = ap chars whole ∙ chars-append (take n text) (encode_utf8 c) un
          ∙ ap (λ (xs : List ℕ). chars (take n text) ++ xs) (chars_past_char (encode_utf8 c) [] c one (sym (append-nil (encode_utf8 c))) ∙ ap (λ (xs : List ℕ). c ∷ xs) chars-nil);
    }
  where
    front : (xs ys : List ℕ) → take (length xs) (xs ++ ys) ≡ xs
    front [] ys = refl
    front (x ∷ xs) ys = ap (λ (l : List ℕ). x ∷ l) (front xs ys)

module _ {S : Type 0} (next : S → ℕ → S) (may_end : S → Bool) (from : S) (dead : S) (stays : (c : ℕ) → next dead c ≡ dead) (never : may_end dead ≡ false) where
  pub stuck : (cs : List ℕ) → fold next dead cs ≡ dead
  stuck [] = refl
  stuck (c ∷ cs) = ap (λ (s : S). fold next s cs) (stays c) ∙ stuck cs

  pub begin : (text : List ℕ) → Sofar next may_end from text 0 0 from
  begin text = record { within = omega arith; utf8 = IsUtf8-nil; reads = ap (fold next from) chars-nil; most = omega arith; ends = λ h. absurd (omega arith); none = λ k a b h. absurd (omega arith) }

  -- one character more
  pub more : (text : List ℕ) (n last c : ℕ) (part to : S) (kept : ℕ) → Sofar next may_end from text n last part → IsCharAt text n c → to ≡ next part c
      → kept ≡ (if may_end to then n + len_utf8 c else last) → Sofar next may_end from text (n + len_utf8 c) kept to
  more text n last c part to kept so here e is =
      by_end (may_end to) refl is
    where
      w : ℕ
      w = len_utf8 c

      p : Past text n c
      p = past text n c so.within so.utf8 here

      read : fold next from (chars (take (n + w) text)) ≡ to
      read = ap (fold next from) p.reads ∙ fold-append next from (chars (take n text)) (c ∷ []) ∙ ap (λ (s : S). next s c) so.reads ∙ sym e

      late : (k : ℕ) → n < k → k ≤ n + w → IsUtf8 (take k text) → k ≡ n + w
      late k lt le u = let o = onward text n k c so.utf8 u lt (omega (arith, p.within)) here in omega (arith, o.far)

      by_end : (b : Bool) → may_end to ≡ b → kept ≡ (if b then n + w else last) → Sofar next may_end from text (n + w) kept to
      by_end true at k-is = record {
        within = p.within;
        utf8 = p.utf8;
        reads = read;
        most = omega arith;
        ends = λ _. subst (λ (j : ℕ). Reads next may_end from (take j text)) (sym k-is) (record { utf8 = p.utf8; ends = ap may_end read ∙ at });
        none = λ k a b h. absurd (omega arith);
      }
      by_end false at k-is = record {
        within = p.within;
        utf8 = p.utf8;
        reads = read;
        most = omega (arith, so.most);
        ends = λ some. subst (λ (j : ℕ). Reads next may_end from (take j text)) (sym k-is) (so.ends (omega arith));
        none = λ k a b h. ⊎_elim
            (λ (eq : k ≡ n). so.none k (omega arith) (omega arith) h)
            (⊎_elim (λ (lt : k < n). so.none k (omega arith) (omega arith) h)
            (λ (gt : n < k).
            let at_end : k ≡ n + w = late k gt b h.utf8 in
            true≢false (sym h.ends ∙ ap (λ (j : ℕ). may_end (fold next from (chars (take j text)))) at_end ∙ ap may_end read ∙ at)))
            (cases_order k n);
      }

  -- no more characters
  pub whole : (text : List ℕ) (n last : ℕ) (part : S) → Sofar next may_end from text n last part → length text ≤ n → Reached (Reads next may_end from) text last
  whole text n last part so all = record { within = omega (arith, so.within, so.most); ends = so.ends; none = λ k a b h. so.none k a (omega arith) h }

  -- the next character leads nowhere
  pub broken : (text : List ℕ) (n last c : ℕ) (part : S) → Sofar next may_end from text n last part → IsCharAt text n c → next part c ≡ dead → Reached (Reads next may_end from) text last
  broken text n last c part so here e = record {
    within = omega (arith, so.within, so.most);
    ends = so.ends;
    none = λ k a b h. ⊎_elim
        (λ (eq : k ≡ n). so.none k a (omega arith) h)
        (⊎_elim (λ (lt : k < n). so.none k a (omega arith) h)
        (λ (gt : n < k).
        let o = onward text n k c so.utf8 h.utf8 gt b here in
        let led : fold next from (chars (take k text)) ≡ dead =
        ap (fold next from) o.reads ∙ fold-append next from (chars (take n text)) (c ∷ o.more) ∙ ap (λ (s : S). fold next (next s c) o.more) so.reads ∙ ap (λ (s : S). fold next s o.more) e ∙ stuck o.more in
        true≢false (sym h.ends ∙ ap may_end led ∙ never)))
        (cases_order k n);
  }

  pub begin_bytes : (text : List ℕ) → SofarBytes next may_end from text 0 0 from
  begin_bytes text = record { within = omega arith; reads = refl; most = omega arith; ends = λ h. absurd (omega arith); none = λ k a b h. absurd (omega arith) }

  pub more_bytes : (text : List ℕ) (n last : ℕ) (part to : S) (kept : ℕ) → SofarBytes next may_end from text n last part → n < length text → to ≡ next part (get_or text n 0)
      → kept ≡ (if may_end to then n + 1 else last) → SofarBytes next may_end from text (n + 1) kept to
  more_bytes text n last part to kept so lt e is =
      by_end (may_end to) refl is
    where
      read : fold next from (take (n + 1) text) ≡ to
      read = fold_more next from text n 0 lt ∙ ap (λ (s : S). next s (get_or text n 0)) so.reads ∙ sym e

      by_end : (b : Bool) → may_end to ≡ b → kept ≡ (if b then n + 1 else last) → SofarBytes next may_end from text (n + 1) kept to
      by_end true at k-is = record {
        within = omega arith;
        reads = read;
        most = omega arith;
        ends = λ _. subst (λ (j : ℕ). may_end (fold next from (take j text)) ≡ true) (sym k-is) (ap may_end read ∙ at);
        none = λ k a b h. absurd (omega arith);
      }
      by_end false at k-is = record {
        within = omega arith;
        reads = read;
        most = omega (arith, so.most);
        ends = λ some. subst (λ (j : ℕ). may_end (fold next from (take j text)) ≡ true) (sym k-is) (so.ends (omega arith));
        none = λ k a b h. ⊎_elim
            (λ (eq : k ≡ n + 1). true≢false (sym h ∙ ap (λ (j : ℕ). may_end (fold next from (take j text))) eq ∙ ap may_end read ∙ at))
            (⊎_elim (λ (lt : k < n + 1). so.none k (omega arith) (omega arith) h) (λ (gt : n + 1 < k). absurd (omega arith)))
            (cases_order k (n + 1));
      }

  pub whole_bytes : (text : List ℕ) (n last : ℕ) (part : S) → SofarBytes next may_end from text n last part → length text ≤ n → Reached (ReadsBytes next may_end from) text last
  whole_bytes text n last part so all = record { within = omega (arith, so.within, so.most); ends = so.ends; none = λ k a b h. so.none k a (omega arith) h }

  pub broken_bytes : (text : List ℕ) (n last : ℕ) (part : S) → SofarBytes next may_end from text n last part → n < length text → next part (get_or text n 0) ≡ dead → Reached (ReadsBytes next may_end from) text last
  broken_bytes text n last part so lt e = record {
    within = omega (arith, so.within, so.most);
    ends = so.ends;
    none = λ k a b h. ⊎_elim
        (λ (eq : k ≡ n). so.none k a (omega arith) h)
        (⊎_elim (λ (lt : k < n). so.none k a (omega arith) h)
        (λ (gt : n < k).
        let m : ℕ = k - (n + 1) in
        let sum : n + 1 + m ≡ k = omega arith in
        let split : take k text ≡ take (n + 1) text ++ take m (drop (n + 1) text) = ap (λ (j : ℕ). take j text) (sym sum) ∙ take-add (n + 1) m text in
        let led : fold next from (take k text) ≡ dead =
        ap (fold next from) split ∙ fold-append next from (take (n + 1) text) (take m (drop (n + 1) text))
        ∙ ap (λ (s : S). fold next s (take m (drop (n + 1) text))) (fold_more next from text n 0 lt ∙ ap (λ (s : S). next s (get_or text n 0)) so.reads ∙ e) ∙ stuck (take m (drop (n + 1) text)) in
        true≢false (sym h ∙ ap may_end led ∙ never)))
        (cases_order k n);
  }

-- a character of ASCII is its byte
pub ascii_at : (bytes text : List ℕ) (at : ℕ) → bytes ≡ text → at < length text → get_or bytes at 0 < 128 → IsCharAt text at (get_or bytes at 0)
ascii_at bytes text at e lt low =
    let b : ℕ = get_or bytes at 0 in
    let same : get_or text at 0 ≡ b = ap (λ (xs : List ℕ). get_or xs at 0) (sym e) in
    record {
      rest = drop (suc at) text;
      here = drop-cons text at 0 lt ∙ ap (λ (x : ℕ). x ∷ drop (suc at) text) same ∙ ap (λ (xs : List ℕ). xs ++ drop (suc at) text) (sym (encode_ascii b low));
      scalar = low_scalar b low;
    }
  where
    low_scalar : (c : ℕ) → c < 128 → IsScalar c
    low_scalar c h = grind (arith, nat_tests)
