-- Where a text stands in the table of words, by its first letter.
use Rattle.std.proofs.Common.{◌≡◌, ℕ, zero, suc, ◌+◌, ◌-◌, ◌<◌, ◌≤◌, ◌==◌, ◌&&◌, ◌||◌, not, nat_le, nat_lt, Bool, true, false, List, [], ◌∷◌, ◌++◌, length, take, drop, get_or, refl, sym, ap, ◌∙◌, subst, arith, true≢false, if◌then◌else◌}
use Rattle.std.proofs.lemmas.Bool.Decides.{nat_tests}
use Rattle.std.proofs.lemmas.List.{take-append-drop, drop-drop, length-take-le, length-drop}
use Rattle.std.specs.List.{list_any}
use Rattle.std.specs.Str.{bytes_eq}
use Rattle.js_tree.specs.Lexing.{place_in, words}
use Rattle.js_tokens.specs.Words.{firsts, head_is, IsSpan}

abbrev hits : List ℕ → List (List ℕ) → Bool
hits text ws = list_any (λ w. bytes_eq w text) ws

no_head : (c : ℕ) (ts : List ℕ) (ws : List (List ℕ)) → list_any (head_is c) ws ≡ false → hits (c ∷ ts) ws ≡ false
no_head c ts [] e = refl
no_head c ts ([] ∷ ws) e = no_head c ts ws e
no_head c ts ((h ∷ t) ∷ ws) e = by_test (h == c) refl e (no_head c ts ws)
  where
    by_test : (b : Bool) → (h == c) ≡ b → (b || list_any (head_is c) ws) ≡ false → (list_any (head_is c) ws ≡ false → hits (c ∷ ts) ws ≡ false) → ((b && bytes_eq t ts) || hits (c ∷ ts) ws) ≡ false
    by_test true f e others = absurd (true≢false e)
    by_test false f e others = others e

past : (ws vs : List (List ℕ)) (text : List ℕ) → hits text ws ≡ false → place_in (ws ++ vs) text ≡ length ws + place_in vs text
past [] vs text e = omega arith
past (w ∷ ws) vs text e = by_test (bytes_eq w text) refl e (past ws vs text)
  where
    by_test : (b : Bool) → bytes_eq w text ≡ b → (b || hits text ws) ≡ false → (hits text ws ≡ false → place_in (ws ++ vs) text ≡ length ws + place_in vs text)
        → (if b then 0 else place_in (ws ++ vs) text + 1) ≡ length (w ∷ ws) + place_in vs text
    by_test true f e others = absurd (true≢false e)
    by_test false f e others = omega (arith, others e)

within : (ws vs : List (List ℕ)) (text : List ℕ) → place_in ws text < length ws → place_in (ws ++ vs) text ≡ place_in ws text
within [] vs text lt = absurd (omega (arith, lt))
within (w ∷ ws) vs text lt = by_test (bytes_eq w text) refl lt (within ws vs text)
  where
    by_test : (b : Bool) → bytes_eq w text ≡ b → (if b then 0 else place_in ws text + 1) < length (w ∷ ws) → (place_in ws text < length ws → place_in (ws ++ vs) text ≡ place_in ws text)
        → (if b then 0 else place_in (ws ++ vs) text + 1) ≡ (if b then 0 else place_in ws text + 1)
    by_test true f lt others = refl
    by_test false f lt others = ap (λ (n : ℕ). n + 1) (others (omega (arith, lt)))

beyond : (ws vs : List (List ℕ)) (text : List ℕ) → length ws ≤ place_in ws text → place_in (ws ++ vs) text ≡ length ws + place_in vs text
beyond [] vs text le = omega arith
beyond (w ∷ ws) vs text le = by_test (bytes_eq w text) refl le (beyond ws vs text)
  where
    by_test : (b : Bool) → bytes_eq w text ≡ b → length (w ∷ ws) ≤ (if b then 0 else place_in ws text + 1) → (length ws ≤ place_in ws text → place_in (ws ++ vs) text ≡ length ws + place_in vs text)
        → (if b then 0 else place_in (ws ++ vs) text + 1) ≡ length (w ∷ ws) + place_in vs text
    by_test true f le others = absurd (omega (arith, le))
    by_test false f le others = omega (arith, others (omega (arith, le)))

absent : (ws : List (List ℕ)) (text : List ℕ) → hits text ws ≡ false → place_in ws text ≡ length ws
absent [] text e = refl
absent (w ∷ ws) text e = by_test (bytes_eq w text) refl e (absent ws text)
  where
    by_test : (b : Bool) → bytes_eq w text ≡ b → (b || hits text ws) ≡ false → (hits text ws ≡ false → place_in ws text ≡ length ws) → (if b then 0 else place_in ws text + 1) ≡ length (w ∷ ws)
    by_test true f e others = absurd (true≢false e)
    by_test false f e others = omega (arith, others e)

-- before and behind the words that begin with a letter none does
abbrev apart : ℕ → Bool
apart k = not (list_any (head_is (97 + k)) (take (get_or firsts k 0) words)) && (not (list_any (head_is (97 + k)) (drop (get_or firsts (k + 1) 0) words))
    && (nat_le (get_or firsts k 0) (get_or firsts (k + 1) 0) && nat_le (get_or firsts (k + 1) 0) 37))

abbrev all_below : ℕ → Bool
all_below zero = true
all_below (suc n) = apart n && all_below n

below : (n k : ℕ) → all_below n ≡ true → k < n → apart k ≡ true
below zero k e lt = absurd (omega (arith, lt))
below (suc n) k e lt = by_test (k == n) refl (below n k)
  where
    first : (a b : Bool) → (a && b) ≡ true → a ≡ true
    first true b e = refl
    first false b e = absurd (true≢false (sym e))

    second : (a b : Bool) → (a && b) ≡ true → b ≡ true
    second true b e = e
    second false b e = absurd (true≢false (sym e))

    here : (k == n) ≡ true → k ≡ n
    here f = grind (arith, nat_tests)

    before : (k == n) ≡ false → k < n
    before f = grind (arith, nat_tests)

    by_test : (b : Bool) → (k == n) ≡ b → (all_below n ≡ true → k < n → apart k ≡ true) → apart k ≡ true
    by_test true f others = ap apart (here f) ∙ first (apart n) (all_below n) e
    by_test false f others = others (second (apart n) (all_below n) e) (before f)

opened : (b : Bool) → not b ≡ true → b ≡ false
opened true e = absurd (true≢false (sym e))
opened false e = refl

parts : (a b c d : Bool) → (not a && (not b && (c && d))) ≡ true → (a ≡ false) × ((b ≡ false) × ((c ≡ true) × (d ≡ true)))
parts false false true true e = (refl, (refl, (refl, refl)))
parts true b c d e = absurd (true≢false (sym e))
parts false true c d e = absurd (true≢false (sym e))
parts false false false d e = absurd (true≢false (sym e))
parts false false true false e = absurd (true≢false (sym e))

pub span : (c k : ℕ) → c ≡ 97 + k → k < 26 → IsSpan c (get_or firsts k 0) (get_or firsts (k + 1) 0)
span c k e lt =
    let p = parts (list_any (head_is (97 + k)) (take (get_or firsts k 0) words)) (list_any (head_is (97 + k)) (drop (get_or firsts (k + 1) 0) words))
    (nat_le (get_or firsts k 0) (get_or firsts (k + 1) 0)) (nat_le (get_or firsts (k + 1) 0) 37) (below 26 k refl lt) in
    record {
      before = ap (λ (x : ℕ). list_any (head_is x) (take (get_or firsts k 0) words)) e ∙ p.0;
      behind = ap (λ (x : ℕ). list_any (head_is x) (drop (get_or firsts (k + 1) 0) words)) e ∙ p.1.0;
      order = ordered p.1.1.0;
      end = ordered p.1.1.1;
    }
  where
    ordered : {a b : ℕ} → nat_le a b ≡ true → a ≤ b
    ordered {a} {b} h = grind (arith, nat_tests)

-- words that begin with another letter aren't the text
other_head : (c : ℕ) (text : List ℕ) (ws : List (List ℕ)) → c ≡ get_or text 0 0 → 0 < length text → list_any (head_is c) ws ≡ false → hits text ws ≡ false
other_head c [] ws e some h = absurd (omega (arith, some))
other_head c (t ∷ ts) ws e some h = no_head t ts ws (ap (λ (x : ℕ). list_any (head_is x) ws) (sym e) ∙ h)

-- a list is what stands before a part of it, the part and what stands behind it
cut : (ws : List (List ℕ)) (from to : ℕ) → from ≤ to → ws ≡ take from ws ++ (take (to - from) (drop from ws) ++ drop to ws)
cut ws from to le =
    let sum : from + (to - from) ≡ to = omega (arith, le) in
    let rest : drop from ws ≡ take (to - from) (drop from ws) ++ drop to ws =
    sym (ap (λ (vs : List (List ℕ)). take (to - from) (drop from ws) ++ vs) (sym (drop-drop (to - from) from ws ∙ ap (λ (n : ℕ). drop n ws) sum)) ∙ take-append-drop (to - from) (drop from ws)) in
    sym (take-append-drop from ws) ∙ ap (λ (vs : List (List ℕ)). take from ws ++ vs) rest

middle : (ws : List (List ℕ)) (from to : ℕ) → from ≤ to → to ≤ length ws → length (take (to - from) (drop from ws)) ≡ to - from
middle ws from to le end = length-take-le (to - from) (drop from ws) (omega (arith, le, end, length-drop from ws))

before : (ws : List (List ℕ)) (text : List ℕ) (from to : ℕ) → from ≤ to → to ≤ length ws → hits text (take from ws) ≡ false
    → place_in ws text ≡ from + place_in (take (to - from) (drop from ws) ++ drop to ws) text
before ws text from to le end h =
    ap (λ (vs : List (List ℕ)). place_in vs text) (cut ws from to le) ∙ past (take from ws) (take (to - from) (drop from ws) ++ drop to ws) text h
    ∙ ap (λ (n : ℕ). n + place_in (take (to - from) (drop from ws) ++ drop to ws) text) (length-take-le from ws (omega (arith, le, end)))

found_within : (ws : List (List ℕ)) (text : List ℕ) (from to : ℕ) → from ≤ to → to ≤ length ws → hits text (take from ws) ≡ false
    → place_in (take (to - from) (drop from ws)) text < to - from → place_in ws text ≡ from + place_in (take (to - from) (drop from ws)) text
found_within ws text from to le end h lt =
    before ws text from to le end h
    ∙ ap (λ (n : ℕ). from + n) (within (take (to - from) (drop from ws)) (drop to ws) text (subst (λ (n : ℕ). place_in (take (to - from) (drop from ws)) text < n) (sym (middle ws from to le end)) lt))

found_nowhere : (ws : List (List ℕ)) (text : List ℕ) (from to : ℕ) → from ≤ to → to ≤ length ws → hits text (take from ws) ≡ false → hits text (drop to ws) ≡ false
    → to - from ≤ place_in (take (to - from) (drop from ws)) text → place_in ws text ≡ length ws
found_nowhere ws text from to le end h k ge =
    let size = middle ws from to le end in
    let rest = beyond (take (to - from) (drop from ws)) (drop to ws) text (subst (λ (n : ℕ). n ≤ place_in (take (to - from) (drop from ws)) text) (sym size) ge) in
    before ws text from to le end h ∙ omega (arith, size, rest, absent (drop to ws) text k, length-drop to ws, le, end)

-- where the text stands in the table, by what is found among the words of its letter
pub in_span : (c : ℕ) (text : List ℕ) (from to : ℕ) → c ≡ get_or text 0 0 → 0 < length text → IsSpan c from to → place_in (take (to - from) (drop from words)) text < to - from
    → from + place_in (take (to - from) (drop from words)) text ≡ place_in words text
in_span c text from to e some s lt = sym (found_within words text from to s.order s.end (other_head c text (take from words) e some s.before) lt)

pub not_in_span : (c : ℕ) (text : List ℕ) (from to : ℕ) → c ≡ get_or text 0 0 → 0 < length text → IsSpan c from to → to - from ≤ place_in (take (to - from) (drop from words)) text
    → 37 ≡ place_in words text
not_in_span c text from to e some s ge = sym (found_nowhere words text from to s.order s.end (other_head c text (take from words) e some s.before) (other_head c text (drop to words) e some s.behind) ge)

-- words begin with a letter
abbrev lettered : List (List ℕ) → Bool
lettered [] = true
lettered ([] ∷ ws) = lettered ws
lettered ((h ∷ t) ∷ ws) = (nat_le 97 h && nat_le h 122) && lettered ws

heads : (c : ℕ) (ws : List (List ℕ)) → (nat_lt c 97 || nat_lt 122 c) ≡ true → lettered ws ≡ true → list_any (head_is c) ws ≡ false
heads c [] e l = refl
heads c ([] ∷ ws) e l = heads c ws e l
heads c ((h ∷ t) ∷ ws) e l = both (h == c) (list_any (head_is c) ws) (differs (front (nat_le 97 h && nat_le h 122) (lettered ws) l)) (heads c ws e (back (nat_le 97 h && nat_le h 122) (lettered ws) l))
  where
    front : (a b : Bool) → (a && b) ≡ true → a ≡ true
    front true b e = refl
    front false b e = absurd (true≢false (sym e))

    back : (a b : Bool) → (a && b) ≡ true → b ≡ true
    back true b e = e
    back false b e = absurd (true≢false (sym e))

    differs : (nat_le 97 h && nat_le h 122) ≡ true → (h == c) ≡ false
    differs f = grind (arith, nat_tests)

    both : (a b : Bool) → a ≡ false → b ≡ false → (a || b) ≡ false
    both a b f g = ap (λ (x : Bool). x || b) f ∙ g
