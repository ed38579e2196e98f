-- How marks go on.
use Rattle.std.proofs.Common.{◌≡◌, ℕ, zero, suc, ◌+◌, ◌==◌, ◌&&◌, ◌||◌, ◌-◌, ◌<◌, ◌≤◌, nat_lt, ⊎_elim, Bool, true, false, if◌then◌else◌, ◌⊎◌, inl, inr, List, [], ◌∷◌, ◌++◌, refl, sym, ap, ◌∙◌, subst, arith, length, take, get_or, true≢false}
use Rattle.std.proofs.lemmas.Bool.{cases_order}
use Rattle.std.proofs.lemmas.Bool.Decides.{nat_tests}
use Rattle.std.proofs.Math.Seq.{take-length}
use Rattle.std.proofs.lemmas.List.{take_more, get_or_past, length-take-le, get_or-take}
use Rattle.std.proofs.lemmas.List.Folds.{list_any_at}
use Rattle.std.proofs.lemmas.Slice.Eq.{bytes_eq-Decides}
use Rattle.std.specs.List.{fold, list_all, list_any}
use Rattle.std.specs.Str.{bytes_eq}
use Rattle.js_tree.specs.Lexical.{ReadsBytes}
use Rattle.js_tree.specs.Lexical.Mark.{marks, is_mark}
use Rattle.js_tree.specs.Lexing.{place_in}
use Rattle.js_tokens.proofs.Machine.{whole_bytes, broken_bytes}
use Rattle.js_tokens.specs.Reading.{Reached, SofarBytes}
use Rattle.js_tokens.specs.Placed.{IsPlaced}
use Rattle.js_tokens.specs.declared.reach.MarkEnd.{MarkEnd}
use Rattle.js_tokens.specs.Marks.{next, may_end, is_done, place, text_of, brackets, stops, orders, signs, bits}
use Rattle.js_tokens.specs.declared.mark.MarkPart.{MarkPart}
use Rattle.js_tokens.specs.declared.mark.MarkPart.TheVariants as part

-- a byte leads nowhere, or the text grows by it
abbrev pub Grows : MarkPart → ℕ → MarkPart → Type 0
Grows p c q = (q ≡ part.Broken) ⊎ (text_of q ≡ text_of p ++ c ∷ [])

same : (c k : ℕ) → (c == k) ≡ true → c ≡ k
same c k e = grind (arith, nat_tests)

one : (p : MarkPart) (c k : ℕ) (q rest : MarkPart) → text_of q ≡ text_of p ++ k ∷ [] → Grows p c rest → Grows p c (if c == k then q else rest)
one p c k q rest e other = by_test (c == k) refl
  where
    by_test : (b : Bool) → (c == k) ≡ b → Grows p c (if b then q else rest)
    by_test true h = inr (e ∙ ap (λ (x : ℕ). text_of p ++ x ∷ []) (sym (same c k h)))
    by_test false h = other

grows-bits : (c : ℕ) → Grows part.Front c (bits c)
grows-bits c = one part.Front c 38 part.And _ refl (one part.Front c 124 part.Or _ refl (one part.Front c 94 part.Caret _ refl (inl refl)))

grows-signs : (c : ℕ) → Grows part.Front c (signs c)
grows-signs c = one part.Front c 43 part.Plus _ refl (one part.Front c 45 part.Minus _ refl (one part.Front c 42 part.Star _ refl (one part.Front c 47 part.Slash _ refl (one part.Front c 37 part.Percent _ refl (grows-bits c)))))

grows-orders : (c : ℕ) → Grows part.Front c (orders c)
grows-orders c = one part.Front c 60 part.Less _ refl (one part.Front c 62 part.Greater _ refl (one part.Front c 61 part.Equal _ refl (one part.Front c 33 part.Bang _ refl (grows-signs c))))

grows-stops : (c : ℕ) → Grows part.Front c (stops c)
grows-stops c = one part.Front c 46 part.Dot _ refl (one part.Front c 59 (part.Done 8) _ refl (one part.Front c 44 (part.Done 9) _ refl (one part.Front c 126 (part.Done 33) _ refl (one part.Front c 63 (part.Done 36) _ refl (one part.Front c 58 (part.Done 37) _ refl (grows-orders c))))))

grows-brackets : (c : ℕ) → Grows part.Front c (brackets c)
grows-brackets c = one part.Front c 123 (part.Done 0) _ refl (one part.Front c 125 (part.Done 1) _ refl (one part.Front c 40 (part.Done 2) _ refl (one part.Front c 41 (part.Done 3) _ refl (one part.Front c 91 (part.Done 4) _ refl (one part.Front c 93 (part.Done 5) _ refl (grows-stops c))))))

pub grows : (p : MarkPart) (c : ℕ) → Grows p c (next p c)
grows part.Front c = grows-brackets c
grows part.Dot c = one part.Dot c 46 part.Dots _ refl (inl refl)
grows part.Dots c = one part.Dots c 46 (part.Done 7) _ refl (inl refl)
grows part.Less c = one part.Less c 60 part.Left _ refl (one part.Less c 61 (part.Done 12) _ refl (inl refl))
grows part.Greater c = one part.Greater c 61 (part.Done 13) _ refl (one part.Greater c 62 part.Right _ refl (inl refl))
grows part.Left c = one part.Left c 61 (part.Done 45) _ refl (inl refl)
grows part.Right c = one part.Right c 61 (part.Done 46) _ refl (one part.Right c 62 part.Unsigned _ refl (inl refl))
grows part.Unsigned c = one part.Unsigned c 61 (part.Done 47) _ refl (inl refl)
grows part.Equal c = one part.Equal c 61 part.Equals _ refl (one part.Equal c 62 (part.Done 51) _ refl (inl refl))
grows part.Equals c = one part.Equals c 61 (part.Done 16) _ refl (inl refl)
grows part.Bang c = one part.Bang c 61 part.Unequal _ refl (inl refl)
grows part.Unequal c = one part.Unequal c 61 (part.Done 17) _ refl (inl refl)
grows part.Plus c = one part.Plus c 43 (part.Done 24) _ refl (one part.Plus c 61 (part.Done 39) _ refl (inl refl))
grows part.Minus c = one part.Minus c 45 (part.Done 25) _ refl (one part.Minus c 61 (part.Done 40) _ refl (inl refl))
grows part.Star c = one part.Star c 42 part.Stars _ refl (one part.Star c 61 (part.Done 41) _ refl (inl refl))
grows part.Stars c = one part.Stars c 61 (part.Done 44) _ refl (inl refl)
grows part.Slash c = one part.Slash c 61 (part.Done 42) _ refl (inl refl)
grows part.Percent c = one part.Percent c 61 (part.Done 43) _ refl (inl refl)
grows part.And c = one part.And c 38 (part.Done 34) _ refl (one part.And c 61 (part.Done 48) _ refl (inl refl))
grows part.Or c = one part.Or c 61 (part.Done 49) _ refl (one part.Or c 124 (part.Done 35) _ refl (inl refl))
grows part.Caret c = one part.Caret c 61 (part.Done 50) _ refl (inl refl)
grows (part.Done k) c = inl refl
grows part.Broken c = inl refl

-- a text that leads to an end of marks is the mark of that place
pub placed : (p : MarkPart) → may_end p ≡ true → text_of p ≡ get_or marks (place p) []
placed part.Front h = absurd (true≢false (sym h))
placed part.Dot h = refl
placed part.Dots h = absurd (true≢false (sym h))
placed part.Less h = refl
placed part.Greater h = refl
placed part.Left h = refl
placed part.Right h = refl
placed part.Unsigned h = refl
placed part.Equal h = refl
placed part.Equals h = refl
placed part.Bang h = refl
placed part.Unequal h = refl
placed part.Plus h = refl
placed part.Minus h = refl
placed part.Star h = refl
placed part.Stars h = refl
placed part.Slash h = refl
placed part.Percent h = refl
placed part.And h = refl
placed part.Or h = refl
placed part.Caret h = refl
placed (part.Done k) h = refl
placed part.Broken h = absurd (true≢false (sym h))

-- what is kept of the marks that were passed
pub placed_on : (p : MarkPart) (n : ℕ) (last kept : MarkEnd) → kept ≡ (if may_end p then record { len = n; place = place p } else last)
    → (kept.len ≡ (if may_end p then n else last.len)) × ((text : List ℕ) → take n text ≡ text_of p → IsPlaced text last → IsPlaced text kept)
placed_on p n last kept e = by_end (may_end p) refl e
  where
    by_end : (b : Bool) → may_end p ≡ b → kept ≡ (if b then record { len = n; place = place p } else last)
        → (kept.len ≡ (if b then n else last.len)) × ((text : List ℕ) → take n text ≡ text_of p → IsPlaced text last → IsPlaced text kept)
    by_end true h k = (ap (λ (m : MarkEnd). m.len) k, λ text t was some. ap (λ (m : MarkEnd). take m.len text) k ∙ t ∙ placed p h ∙ ap (λ (m : MarkEnd). get_or marks m.place []) (sym k))
    by_end false h k = (ap (λ (m : MarkEnd). m.len) k, λ text t was. let P : MarkEnd → Type 0 = λ m. IsPlaced text m in subst P (sym k) was)

among : (t : List ℕ) (ms : List (List ℕ)) → list_all (λ m. may_end (fold next part.Front m)) ms ≡ true → list_any (bytes_eq t) ms ≡ true → may_end (fold next part.Front t) ≡ true
among t [] a h = absurd (true≢false (sym h))
among t (m ∷ ms) a h = by_first (bytes_eq t m) (may_end (fold next part.Front m)) refl refl a h (among t ms)
  where
    by_first : (b x : Bool) → bytes_eq t m ≡ b → may_end (fold next part.Front m) ≡ x → (x && list_all (λ m. may_end (fold next part.Front m)) ms) ≡ true → (b || list_any (bytes_eq t) ms) ≡ true
        → (list_all (λ m. may_end (fold next part.Front m)) ms ≡ true → list_any (bytes_eq t) ms ≡ true → may_end (fold next part.Front t) ≡ true) → may_end (fold next part.Front t) ≡ true
    by_first true true e f a h others = ap (λ (xs : List ℕ). may_end (fold next part.Front xs)) ((bytes_eq-Decides t m).0 e) ∙ f
    by_first false true e f a h others = others a h
    by_first b false e f a h others = absurd (true≢false (sym a))

-- the marks of the table are read to an end
pub accepted : (t : List ℕ) → is_mark t ≡ true → may_end (fold next part.Front t) ≡ true
accepted t h = among t marks refl h

-- a mark that was found by its place is in the table
pub is_one : (text : List ℕ) (m : MarkEnd) → m.len ≤ length text → 0 < m.len → IsPlaced text m → is_mark (take m.len text) ≡ true
is_one text m within some placed =
    let e = placed some in
    let size : length (get_or marks m.place []) ≡ m.len = ap length (sym e) ∙ length-take-le m.len text within in
    ⊎_elim (λ (eq : m.place ≡ length marks). absurd (missing size (omega (arith, eq))))
    (⊎_elim (λ (lt : m.place < length marks). list_any_at (bytes_eq (take m.len text)) marks m.place [] lt ((bytes_eq-Decides (take m.len text) (get_or marks m.place [])).1 e))
    (λ (gt : length marks < m.place). absurd (missing size (omega (arith, gt)))))
    (cases_order m.place (length marks))
  where
    missing : length (get_or marks m.place []) ≡ m.len → length marks ≤ m.place → ⊥
    missing size past = omega (arith, sym size ∙ ap length (get_or_past marks m.place [] past))

-- a mark has bytes, and the last is of ASCII
abbrev low_end : List ℕ → Bool
low_end t = nat_lt 0 (length t) && nat_lt (get_or t (length t - 1) 0) 128

low_among : (t : List ℕ) (ms : List (List ℕ)) → list_all low_end ms ≡ true → list_any (bytes_eq t) ms ≡ true → low_end t ≡ true
low_among t [] a h = absurd (true≢false (sym h))
low_among t (m ∷ ms) a h = by_first (bytes_eq t m) (low_end m) refl refl a h (low_among t ms)
  where
    by_first : (b x : Bool) → bytes_eq t m ≡ b → low_end m ≡ x → (x && list_all low_end ms) ≡ true → (b || list_any (bytes_eq t) ms) ≡ true
        → (list_all low_end ms ≡ true → list_any (bytes_eq t) ms ≡ true → low_end t ≡ true) → low_end t ≡ true
    by_first true true e f a h others = ap low_end ((bytes_eq-Decides t m).0 e) ∙ f
    by_first false true e f a h others = others a h
    by_first b false e f a h others = absurd (true≢false (sym a))

pub mark_ascii : (text : List ℕ) (n : ℕ) → n ≤ length text → is_mark (take n text) ≡ true → (0 < n) × (get_or text (n - 1) 0 < 128)
mark_ascii text n le h =
    let below : n - 1 < n = omega (arith, some) in
    (some, subst (λ (x : ℕ). x < 128) (ap (λ (k : ℕ). get_or (take n text) (k - 1) 0) size ∙ get_or-take n text (n - 1) 0 below) (low (take n text) is_low))
  where
    size : length (take n text) ≡ n
    size = length-take-le n text le

    is_low : low_end (take n text) ≡ true
    is_low = low_among (take n text) marks refl h

    long : (t : List ℕ) → low_end t ≡ true → 0 < length t
    long t h = grind (arith, nat_tests)

    low : (t : List ℕ) → low_end t ≡ true → get_or t (length t - 1) 0 < 128
    low t h = grind (arith, nat_tests)

    some : 0 < n
    some = omega (arith, size, long (take n text) is_low)

-- the text grows by a byte that doesn't lead past all marks
pub grown_by : (text : List ℕ) (n : ℕ) (p q : MarkPart) → n < length text → take n text ≡ text_of p → q ≡ next p (get_or text n 0) → (q ≡ part.Broken → ⊥) → take (n + 1) text ≡ text_of q
grown_by text n p q lt was led on =
    ⊎_elim (λ (e : next p (get_or text n 0) ≡ part.Broken). absurd (on (led ∙ e)))
    (λ (e : text_of (next p (get_or text n 0)) ≡ text_of p ++ get_or text n 0 ∷ []). take_more text n 0 lt ∙ ap (λ (xs : List ℕ). xs ++ get_or text n 0 ∷ []) was ∙ sym e ∙ ap text_of (sym led))
    (grows p (get_or text n 0))

done_breaks : (p : MarkPart) (c : ℕ) → is_done p ≡ true → next p c ≡ part.Broken
done_breaks (part.Done k) c h = refl
done_breaks _ c h = absurd (true≢false (sym h))

-- where no mark goes on the longest one has been met
pub done_reached : (text : List ℕ) (n last : ℕ) (p : MarkPart) → SofarBytes next may_end part.Front text n last p → is_done p ≡ true → Reached (ReadsBytes next may_end part.Front) text last
done_reached text n last p so h =
    ⊎_elim (λ (e : n ≡ length text). whole_bytes next may_end part.Front part.Broken (λ _. refl) refl text n last p so (omega (arith, e)))
    (⊎_elim (λ (lt : n < length text). broken_bytes next may_end part.Front part.Broken (λ _. refl) refl text n last p so lt (done_breaks p (get_or text n 0) h)) (λ (gt : length text < n). absurd (omega (arith, gt, so.within))))
    (cases_order n (length text))

-- the table has no mark twice
abbrev all_apart : ℕ → Bool
all_apart zero = true
all_apart (suc n) = (place_in marks (get_or marks n []) == n) && all_apart n

apart : (n k : ℕ) → all_apart n ≡ true → k < n → place_in marks (get_or marks k []) ≡ k
apart zero k e lt = absurd (omega (arith, lt))
apart (suc n) k e lt = by_test (k == n) refl (apart n k)
  where
    front : (a b : Bool) → (a && b) ≡ true → a ≡ true
    front true b e = refl
    front false b e = absurd (true≢false (sym e))

    back : (a b : Bool) → (a && b) ≡ true → b ≡ true
    back true b e = e
    back false b e = absurd (true≢false (sym e))

    before : (k == n) ≡ false → k < n
    before f = grind (arith, nat_tests)

    by_test : (b : Bool) → (k == n) ≡ b → (all_apart n ≡ true → k < n → place_in marks (get_or marks k []) ≡ k) → place_in marks (get_or marks k []) ≡ k
    by_test true f others =
        ap (λ (m : ℕ). place_in marks (get_or marks m [])) (same k n f) ∙ same _ n (front (place_in marks (get_or marks n []) == n) (all_apart n) e) ∙ sym (same k n f)
    by_test false f others = others (back (place_in marks (get_or marks n []) == n) (all_apart n) e) (before f)

-- the place of a mark that was found is that of the table
pub one_place : (text : List ℕ) (m : MarkEnd) → is_mark text ≡ true → Reached (ReadsBytes next may_end part.Front) text m.len → IsPlaced text m → m.place ≡ place_in marks text
one_place text m h r placed =
    let whole : m.len ≡ length text = ⊎_elim (λ (e : m.len ≡ length text). e) (⊎_elim (λ (lt : m.len < length text). absurd (r.none (length text) lt (omega arith) (ends_whole lt))) (λ (gt : length text < m.len). absurd (omega (arith, gt, r.within)))) (cases_order m.len (length text)) in
    let some : 0 < m.len = omega (arith, whole, (mark_ascii text (length text) (omega arith) (ap is_mark (take-length text) ∙ h)).0) in
    let e : text ≡ get_or marks m.place [] = sym (ap (λ (n : ℕ). take n text) whole ∙ take-length text) ∙ placed some in
    let below : m.place < length marks = ⊎_elim (λ (eq : m.place ≡ length marks). absurd (past e (omega (arith, eq)) (omega (arith, whole, some))))
    (⊎_elim (λ (lt : m.place < length marks). lt) (λ (gt : length marks < m.place). absurd (past e (omega (arith, gt)) (omega (arith, whole, some))))) (cases_order m.place (length marks)) in
    sym (ap (place_in marks) e ∙ apart (length marks) m.place refl below)
  where
    ends_whole : m.len < length text → ReadsBytes next may_end part.Front (take (length text) text)
    ends_whole lt = ap (λ (t : List ℕ). may_end (fold next part.Front t)) (take-length text) ∙ accepted text h

    past : text ≡ get_or marks m.place [] → length marks ≤ m.place → 0 < length text → ⊥
    past e far some = omega (arith, some, ap length e, ap length (get_or_past marks m.place [] far))
