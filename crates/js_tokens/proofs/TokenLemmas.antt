-- One token of a goal stands at a place.
use Rattle.std.proofs.Common.{◌≡◌, ℕ, zero, suc, ◌+◌, ◌-◌, ◌<◌, ◌≤◌, ◌==◌, ◌&&◌, ◌||◌, nat_le, Bool, true, false, ⊎_elim, List, [], ◌∷◌, length, take, drop, get_or, refl, sym, ap, ◌∙◌, subst, arith, true≢false, if◌then◌else◌, nat_eq, codes}
use Rattle.std.proofs.lemmas.Bool.{cases_order}
use Rattle.std.proofs.lemmas.Bool.Decides.{nat_tests}
use Rattle.std.proofs.lemmas.List.Sums.{fold-append, fold_more}
use Rattle.std.proofs.Math.Seq.{take-add}
use Rattle.std.specs.Char.{is_ascii_alphabetic}
use Rattle.std.specs.List.{fold, starts_with}
use Rattle.std.specs.Str.{bytes_eq}
use Rattle.unicode_ident.proofs.IdentLemmas.{is_xid_start-ascii}
use Rattle.js_tree.specs.Lexical.{Stands, ReadsBytes, IsLast, IsBefore, is_barred}
use Rattle.js_tree.specs.Lexical.Character.{is_quote, is_digit, is_start, begins}
use Rattle.js_tree.specs.Lexical.Quoted as quoted
use Rattle.js_tree.specs.Lexical.Template as template
use Rattle.js_tree.specs.Lexing.{Longest, is_word}
use Rattle.js_tree.specs.declared.part.StringPart.TheVariants as quoted_part
use Rattle.js_tree.specs.declared.part.TemplatePart.{TemplatePart}
use Rattle.js_tree.specs.declared.part.TemplatePart.TheVariants as template_part
use Rattle.js_tree.specs.declared.token.TokenClass.{TokenClass}
use Rattle.js_tree.specs.declared.token.TokenClass.TheVariants as class
use Rattle.js_tokens.proofs.FrontLemmas.{one_longest, some_closed, closed_at}
use Rattle.js_tokens.proofs.Machine.{stuck}
use Rattle.js_tokens.proofs.MarkLemmas.{accepted}
use Rattle.js_tokens.proofs.SortLemmas.{leads, begins_mark, number_begins, identifier_begins, regex_begins, same_number, false_by, odd_quote, odd_tick, odd_digit, sort_admits}
use Rattle.js_tokens.specs.Fronts.{sort_by, sort_at, sort_of, admits, is_operand, is_template, StandsFor, DoesntClose, IsFound, IsFoundFor, OpensBy, named}
use Rattle.js_tokens.specs.Marks as marks
use Rattle.js_tokens.specs.declared.fault.Unclosed.TheVariants as unclosed
use Rattle.js_tokens.specs.declared.front.Found.{Found}
use Rattle.js_tokens.specs.declared.front.Found.TheVariants as found
use Rattle.js_tokens.specs.declared.goal.Goal.{Goal}
use Rattle.js_tokens.specs.declared.goal.Goal.TheVariants as goal
use Rattle.js_tokens.specs.declared.goal.Sort.{Sort}
use Rattle.js_tokens.specs.declared.goal.Sort.TheVariants as sort
use Rattle.js_tokens.specs.declared.mark.MarkPart.TheVariants as mark_part

-- which test holds of the first byte
number_plain : (b next : ℕ) → (is_digit b || (b == 46 && is_digit next)) ≡ true → (is_quote b ≡ false) × (((b == 96) ≡ false) × (((b == 125) ≡ false) × ((b == 47) ≡ false)))
number_plain b next h = (grind (arith, nat_tests), (grind (arith, nat_tests), (grind (arith, nat_tests), grind (arith, nat_tests))))

word_plain : (b : ℕ) → (nat_le 128 b || (is_ascii_alphabetic b || b == 36 || b == 95)) ≡ true
    → (is_quote b ≡ false) × (((b == 96) ≡ false) × (((b == 125) ≡ false) × (((b == 47) ≡ false) × ((is_digit b ≡ false) × ((b == 46) ≡ false)))))
word_plain b h = (grind (arith, nat_tests), (grind (arith, nat_tests), (grind (arith, nat_tests), (grind (arith, nat_tests), (grind (arith, nat_tests), grind (arith, nat_tests))))))

odd_word : (b : ℕ) → (nat_le 128 b || (is_ascii_alphabetic b || b == 36 || b == 95)) ≡ true → marks.brackets b ≡ mark_part.Broken
odd_word b h = grind (arith, nat_tests)

start_plain : (b : ℕ) → (nat_le 128 b || is_start b) ≡ (nat_le 128 b || (is_ascii_alphabetic b || b == 36 || b == 95))
start_plain b = by_size (nat_le 128 b) refl
  where
    low : nat_le 128 b ≡ false → b < 128
    low e = grind (arith, nat_tests)

    by_size : (t : Bool) → nat_le 128 b ≡ t → (t || is_start b) ≡ (t || (is_ascii_alphabetic b || b == 36 || b == 95))
    by_size true e = refl
    by_size false e = ap (λ (x : Bool). x || b == 36 || b == 95) (is_xid_start-ascii b (low e))

and_left : (a b : Bool) → a ≡ false → (a && b) ≡ false
and_left a b e = ap (λ (x : Bool). x && b) e

-- behind a mark that is a point stands no digit
apart_of : (text : List ℕ) (n : ℕ) → ReadsBytes marks.next marks.may_end mark_part.Front (take n text) → (bytes_eq (46 ∷ []) (take n text) && begins is_digit (drop n text)) ≡ false
    → (get_or text 0 0 == 46 && is_digit (get_or text 1 0)) ≡ false
apart_of text zero m r = absurd (true≢false (sym m))
apart_of [] (suc n) m r = refl
apart_of (b ∷ []) (suc n) m r = and_right (b == 46)
  where
    and_right : (a : Bool) → (a && false) ≡ false
    and_right true = refl
    and_right false = refl
apart_of (b ∷ d ∷ ds) (suc zero) m r = grind (arith, nat_tests)
apart_of (b ∷ d ∷ ds) (suc (suc n)) m r = false_by (b == 46 && is_digit d) far
  where
    point : (b == 46 && is_digit d) ≡ true → marks.next (marks.next mark_part.Front b) d ≡ mark_part.Broken
    point h = dots (b_is h) (d_is h)
      where
        b_is : (b == 46 && is_digit d) ≡ true → b ≡ 46
        b_is h = grind (arith, nat_tests)

        d_is : (b == 46 && is_digit d) ≡ true → (d == 46) ≡ false
        d_is h = grind (arith, nat_tests)

        dots : b ≡ 46 → (d == 46) ≡ false → marks.next (marks.next mark_part.Front b) d ≡ mark_part.Broken
        dots e f = ap (λ (x : ℕ). marks.next (marks.next mark_part.Front x) d) e ∙ ap (λ (x : Bool). if x then mark_part.Dots else mark_part.Broken) f

    far : (b == 46 && is_digit d) ≡ true → ⊥
    far h = true≢false (sym m ∙ ap (λ s. marks.may_end (fold marks.next s (take n ds))) (point h) ∙ ap marks.may_end (stuck marks.next marks.may_end mark_part.Front mark_part.Broken (λ _. refl) refl (take n ds)))

goal_rest : (g : Goal) (b : ℕ) → admits g class.Punct b ≡ true → (b == 125 && is_template g) ≡ false
goal_rest goal.Operand b h = grind (arith, nat_tests)
goal_rest goal.Operator b h = grind (arith, nat_tests)
goal_rest goal.Template b h = grind (arith, nat_tests)

goal_regex : (g : Goal) (b : ℕ) → admits g class.Punct b ≡ true → (b == 47 && is_operand g) ≡ false
goal_regex goal.Operand b h = grind (arith, nat_tests)
goal_regex goal.Operator b h = grind (arith, nat_tests)
goal_regex goal.Template b h = grind (arith, nat_tests)

or_false : (a b : Bool) → a ≡ false → b ≡ false → (a || b) ≡ false
or_false a b e f = ap (λ (x : Bool). x || b) e ∙ f

mark_sorted : (g : Goal) (text : List ℕ) (n : ℕ) → Stands class.Punct text n → admits g class.Punct (get_or text 0 0) ≡ true → sort_at g (get_or text 0 0) (get_or text 1 0) ≡ sort.Mark
mark_sorted g text n s h =
    λ i. sort_by (q i) (t i) (goal_rest g b h i) (goal_regex g b h i) (d i) (w i)
  where
    b : ℕ
    b = get_or text 0 0

    reads : ReadsBytes marks.next marks.may_end mark_part.Front (take n text)
    reads = accepted (take n text) s.longest.holds

    on : marks.brackets b ≡ mark_part.Broken → ⊥
    on e = leads marks.next marks.may_end mark_part.Front mark_part.Broken (λ _. refl) refl refl text n reads e

    q : is_quote b ≡ false
    q = false_by (is_quote b) (λ e. on (odd_quote b e))

    t : (b == 96) ≡ false
    t = false_by (b == 96) (λ e. on (odd_tick b e))

    d : (is_digit b || (b == 46 && is_digit (get_or text 1 0))) ≡ false
    d = or_false (is_digit b) (b == 46 && is_digit (get_or text 1 0)) (false_by (is_digit b) (λ e. on (odd_digit b e))) (apart_of text n reads s.right)

    w : (nat_le 128 b || is_start b) ≡ false
    w = false_by (nat_le 128 b || is_start b) (λ e. on (odd_word b (sym (start_plain b) ∙ e)))

number_sorted : (g : Goal) (b next : ℕ) → (is_digit b || (b == 46 && is_digit next)) ≡ true → sort_at g b next ≡ sort.Number
number_sorted g b next h =
    let p = number_plain b next h in
    λ i. sort_by (p.0 i) (p.1.0 i) (and_left (b == 125) (is_template g) p.1.1.0 i) (and_left (b == 47) (is_operand g) p.1.1.1 i) (h i) (nat_le 128 b || is_start b)

word_sorted : (g : Goal) (b next : ℕ) → (nat_le 128 b || is_start b) ≡ true → sort_at g b next ≡ sort.Identifier
word_sorted g b next h =
    let p = word_plain b (sym (start_plain b) ∙ h) in
    λ i. sort_by (p.0 i) (p.1.0 i) (and_left (b == 125) (is_template g) p.1.1.0 i) (and_left (b == 47) (is_operand g) p.1.1.1.0 i)
    (or_false (is_digit b) (b == 46 && is_digit next) p.1.1.1.1.0 (and_left (b == 46) (is_digit next) p.1.1.1.1.1) i) (h i)

template_sorted : (g : Goal) (b next : ℕ) → b ≡ 96 → sort_at g b next ≡ sort.Template
template_sorted g b next e = ap (λ (x : ℕ). sort_at g x next) e

rest_sorted : (g : Goal) (b next : ℕ) → b ≡ 125 → is_template g ≡ true → sort_at g b next ≡ sort.Rest
rest_sorted g b next e h = ap (λ (x : ℕ). sort_at g x next) e ∙ ap (λ (t : Bool). sort_by false false t false false (is_start 125)) h

regex_sorted : (g : Goal) (b next : ℕ) → b ≡ 47 → is_operand g ≡ true → sort_at g b next ≡ sort.Regex
regex_sorted g b next e h = ap (λ (x : ℕ). sort_at g x next) e ∙ ap (λ (t : Bool). sort_by false false false t false (is_start 47)) h

-- a token of the goal is of the sort that its first bytes say
pub sorted : (g : Goal) (c : TokenClass) (text : List ℕ) (n : ℕ) → Stands c text n → admits g c (get_or text 0 0) ≡ true → sort_of c ≡ sort_at g (get_or text 0 0) (get_or text 1 0)
sorted g class.Name text n s h = sym (word_sorted g (get_or text 0 0) (get_or text 1 0) (identifier_begins text n s.longest.holds))
sorted g class.Word text n s h = sym (word_sorted g (get_or text 0 0) (get_or text 1 0) (identifier_begins text n s.longest.holds))
sorted g class.Number text n s h = sym (number_sorted g (get_or text 0 0) (get_or text 1 0) (number_begins text n s.longest.holds))
sorted g class.Str text n s h =
    let b : ℕ = get_or text 0 0 in
    let q : is_quote b ≡ true = ap is_quote (sym (closed_at text n (some_closed text n s.longest.holds))) ∙ s.longest.holds.0 in
    sym (ap (λ (x : Bool). sort_by x (b == 96) (b == 125 && is_template g) (b == 47 && is_operand g) (is_digit b || (b == 46 && is_digit (get_or text 1 0))) (nat_le 128 b || is_start b)) q)
sorted g class.TemplateWhole text n s h = sym (template_sorted g (get_or text 0 0) (get_or text 1 0) (same_number (get_or text 0 0) 96 (begins_mark 96 template.is_closed refl refl text n s.longest.holds)))
sorted g class.TemplateHead text n s h = sym (template_sorted g (get_or text 0 0) (get_or text 1 0) (same_number (get_or text 0 0) 96 (begins_mark 96 template.is_opened refl refl text n s.longest.holds)))
sorted g class.TemplateMiddle text n s h = sym (rest_sorted g (get_or text 0 0) (get_or text 1 0) (same_number (get_or text 0 0) 125 (begins_mark 125 template.is_opened refl refl text n s.longest.holds)) h)
sorted g class.TemplateTail text n s h = sym (rest_sorted g (get_or text 0 0) (get_or text 1 0) (same_number (get_or text 0 0) 125 (begins_mark 125 template.is_closed refl refl text n s.longest.holds)) h)
sorted g class.Regex text n s h = sym (regex_sorted g (get_or text 0 0) (get_or text 1 0) (same_number (get_or text 0 0) 47 (regex_begins text n s.longest.holds)) h)
sorted g class.Punct text n s h = sym (mark_sorted g text n s h)
sorted g class.End text n s h = absurd s.longest.holds

-- a part of a template ends once
closed_ends : (p : TemplatePart) → template.is_closed p ≡ true → template.may_end p ≡ true
closed_ends template_part.Closed h = refl
closed_ends _ h = absurd (true≢false (sym h))

opened_ends : (p : TemplatePart) → template.is_opened p ≡ true → template.may_end p ≡ true
opened_ends template_part.Opened h = refl
opened_ends _ h = absurd (true≢false (sym h))

not_both : (p : TemplatePart) → template.is_closed p ≡ true → template.is_opened p ≡ true → ⊥
not_both template_part.Closed h k = true≢false (sym k)
not_both _ h k = true≢false (sym h)

no_more : (mark : ℕ) (p : TemplatePart) (c : ℕ) → template.may_end p ≡ true → template.next mark p c ≡ template_part.Broken
no_more mark template_part.Closed c h = refl
no_more mark template_part.Opened c h = refl
no_more mark _ c h = absurd (true≢false (sym h))

ends_once : (mark : ℕ) (text : List ℕ) (n k : ℕ) → n < k → k ≤ length text → template.may_end (fold (template.next mark) template_part.Front (take n text)) ≡ true
    → template.may_end (fold (template.next mark) template_part.Front (take k text)) ≡ true → ⊥
ends_once mark text n k lt le h e =
    let next = template.next mark in
    let m : ℕ = k - (n + 1) in
    let sum : n + 1 + m ≡ k = omega arith in
    let below : n < length text = omega arith in
    let led : fold next template_part.Front (take k text) ≡ template_part.Broken =
    ap (λ (j : ℕ). fold next template_part.Front (take j text)) (sym sum) ∙ ap (fold next template_part.Front) (take-add (n + 1) m text)
    ∙ fold-append next template_part.Front (take (n + 1) text) (take m (drop (n + 1) text))
    ∙ ap (λ s. fold next s (take m (drop (n + 1) text))) (fold_more next template_part.Front text n 0 below ∙ no_more mark _ (get_or text n 0) h)
    ∙ stuck next template.may_end template_part.Front template_part.Broken (λ _. refl) refl (take m (drop (n + 1) text)) in
    true≢false (sym e ∙ ap template.may_end led)

one_end : (mark : ℕ) (text : List ℕ) (n k : ℕ) → n ≤ length text → k ≤ length text → IsLast mark (take n text) → IsBefore mark (take k text) → ⊥
one_end mark text n k ln lk a b =
    ⊎_elim (λ (e : n ≡ k). not_both _ a (ap (λ (j : ℕ). template.is_opened (fold (template.next mark) template_part.Front (take j text))) e ∙ b))
    (⊎_elim (λ (lt : n < k). ends_once mark text n k lt lk (closed_ends _ a) (opened_ends _ b)) (λ (lt : k < n). ends_once mark text k n lt ln (opened_ends _ b) (closed_ends _ a)))
    (cases_order n k)

-- two tokens of one sort at one place are one
pub record Same (c d : TokenClass) (n k : ℕ) : Type 0 where
  pub class : c ≡ d
  pub size : n ≡ k

by_size : (c d : TokenClass) (P : List ℕ → Type 0) (text : List ℕ) (n k : ℕ) → c ≡ d → Longest P text n → Longest P text k → Same c d n k
by_size c d P text n k e a b = record { class = e; size = one_longest P text n k a b }

pub one_token : (c d : TokenClass) (text : List ℕ) (n k : ℕ) → sort_of c ≡ sort_of d → Stands c text n → Stands d text k → Same c d n k
one_token class.Name class.Name text n k e s v = by_size _ _ _ text n k refl s.longest v.longest
one_token class.Word class.Word text n k e s v = by_size _ _ _ text n k refl s.longest v.longest
one_token class.Name class.Word text n k e s v =
    absurd (true≢false (sym v.right ∙ ap (λ (m : ℕ). is_word (take m text)) (sym (one_longest _ text n k s.longest v.longest)) ∙ s.right))
one_token class.Word class.Name text n k e s v =
    absurd (true≢false (sym s.right ∙ ap (λ (m : ℕ). is_word (take m text)) (one_longest _ text n k s.longest v.longest) ∙ v.right))
one_token class.Number class.Number text n k e s v = by_size _ _ _ text n k refl s.longest v.longest
one_token class.Str class.Str text n k e s v = by_size _ _ _ text n k refl s.longest v.longest
one_token class.Regex class.Regex text n k e s v = by_size _ _ _ text n k refl s.longest v.longest
one_token class.Punct class.Punct text n k e s v = by_size _ _ _ text n k refl s.longest v.longest
one_token class.TemplateWhole class.TemplateWhole text n k e s v = by_size _ _ _ text n k refl s.longest v.longest
one_token class.TemplateHead class.TemplateHead text n k e s v = by_size _ _ _ text n k refl s.longest v.longest
one_token class.TemplateMiddle class.TemplateMiddle text n k e s v = by_size _ _ _ text n k refl s.longest v.longest
one_token class.TemplateTail class.TemplateTail text n k e s v = by_size _ _ _ text n k refl s.longest v.longest
one_token class.TemplateWhole class.TemplateHead text n k e s v = absurd (one_end 96 text n k s.longest.within v.longest.within s.longest.holds v.longest.holds)
one_token class.TemplateHead class.TemplateWhole text n k e s v = absurd (one_end 96 text k n v.longest.within s.longest.within v.longest.holds s.longest.holds)
one_token class.TemplateTail class.TemplateMiddle text n k e s v = absurd (one_end 125 text n k s.longest.within v.longest.within s.longest.holds v.longest.holds)
one_token class.TemplateMiddle class.TemplateTail text n k e s v = absurd (one_end 125 text k n v.longest.within s.longest.within v.longest.holds s.longest.holds)
one_token class.End _ text n k e s v = absurd s.longest.holds
one_token _ class.End text n k e s v = absurd v.longest.holds
one_token _ _ text n k e s v = cc

-- where a token stands, what begins there closes
closing : (c : TokenClass) (text : List ℕ) (n : ℕ) → Stands c text n → DoesntClose (sort_of c) text → ⊥
closing class.Name text n s h = h
closing class.Word text n s h = h
closing class.Number text n s h = h
closing class.Punct text n s h = h
closing class.End text n s h = h
closing class.Regex text n s h = h n s.longest.within s.longest.holds
closing class.Str text n s h =
    h n s.longest.within (subst (λ (b : ℕ). ReadsBytes (quoted.next b) quoted.may_end quoted_part.Front (take n text)) (closed_at text n (some_closed text n s.longest.holds)) s.longest.holds.1)
closing class.TemplateWhole text n s h = h n s.longest.within (closed_ends _ s.longest.holds)
closing class.TemplateHead text n s h = h n s.longest.within (opened_ends _ s.longest.holds)
closing class.TemplateMiddle text n s h = h n s.longest.within (opened_ends _ s.longest.holds)
closing class.TemplateTail text n s h = h n s.longest.within (closed_ends _ s.longest.holds)

-- what was found of the sort was found for the goal
pub found_for : (g : Goal) (fresh : Bool) (text : List ℕ) (r : Found) → is_barred fresh text ≡ false → starts_with nat_eq text (codes "/*") ≡ false
    → IsFound (sort_at g (get_or text 0 0) (get_or text 1 0)) text r → IsFoundFor g fresh text r
found_for g fresh text (found.Token f) free no_comment h = record { free = free; stands = h.1; admits = sort_admits g f.class (get_or text 0 0) (get_or text 1 0) h.0 }
found_for g fresh text (found.Open what) free no_comment h =
    let s : Sort = sort_at g (get_or text 0 0) (get_or text 1 0) in
    subst (λ (t : Bool). OpensBy t (what ≡ unclosed.Comment) ((what ≡ named s) × DoesntClose s text)) (sym no_comment) h
found_for g fresh text found.Nothing free no_comment h = λ what o.
    let s : Sort = sort_at g (get_or text 0 0) (get_or text 1 0) in
    let both : (what ≡ named s) × DoesntClose s text = subst (λ (t : Bool). OpensBy t (what ≡ unclosed.Comment) ((what ≡ named s) × DoesntClose s text)) no_comment o in
    h.1 both.1

-- and it is the only token of the goal
pub found_only : (g : Goal) (fresh : Bool) (text : List ℕ) (r : Found) → IsFound (sort_at g (get_or text 0 0) (get_or text 1 0)) text r → (c : TokenClass) (n : ℕ) → StandsFor g fresh c text n
    → r ≡ found.Token (record { class = c; len = n })
found_only g fresh text (found.Token f) h c n s =
    let e = one_token f.class c text f.len n (h.0 ∙ sym (sorted g c text n s.stands s.admits)) h.1 s.stands in
    λ i. found.Token (record { class = e.class i; len = e.size i })
found_only g fresh text (found.Open what) h c n s =
    absurd (closing c text n s.stands (subst (λ (x : Sort). DoesntClose x text) (sym (sorted g c text n s.stands s.admits)) h.1))
found_only g fresh text found.Nothing h c n s = absurd (h.0 c n (sorted g c text n s.stands s.admits) s.stands)

pub barred_from : (a b c : Bool) → a ≡ false → (b || c) ≡ false → ((a || b) || c) ≡ false
barred_from true b c e f = absurd (true≢false e)
barred_from false b c e f = f
