-- What stands behind the trivia of a place.
use Rattle.std.proofs.Common.{◌≡◌, ℕ, zero, suc, ◌+◌, ◌-◌, ◌<◌, ◌≤◌, ◌==◌, ◌||◌, Bool, true, false, inl, inr, List, [], length, take, drop, get_or, refl, sym, ap, ◌∙◌, subst, arith, true≢false, if◌then◌else◌}
use Rattle.std.proofs.lemmas.Bool.Decides.{nat_tests}
use Rattle.std.proofs.lemmas.List.{length-take-le, length-drop, drop_all}
use Rattle.std.proofs.lemmas.Str.{chars-nil, IsUtf8-nil, IsUtf8-drop, IsCharBoundary-after_ascii, IsCharBoundary-from_take, IsCharBoundary-from_rest}
use Rattle.std.specs.List.{fold}
use Rattle.std.specs.Str.{IsUtf8, IsCharBoundary}
use Rattle.js_tree.specs.Lexical.{Stands, IsTrivia, begin_trivia, has_line_end, is_fresh, ReadsBytes}
use Rattle.js_tree.specs.Lexical.Character.{is_quote}
use Rattle.js_tree.specs.Lexical.Number as number
use Rattle.js_tree.specs.Lexical.Quoted as quoted
use Rattle.js_tree.specs.Lexical.Template as template
use Rattle.js_tree.specs.Lexical.Trivia as trivia
use Rattle.js_tree.specs.Lexing.{Longest, Place}
use Rattle.js_tree.specs.declared.part.NumberPart.TheVariants as number_part
use Rattle.js_tree.specs.declared.part.StringPart.{StringPart}
use Rattle.js_tree.specs.declared.part.StringPart.TheVariants as quoted_part
use Rattle.js_tree.specs.declared.part.TemplatePart.{TemplatePart}
use Rattle.js_tree.specs.declared.part.TemplatePart.TheVariants as template_part
use Rattle.js_tree.specs.declared.part.TriviaPart.TheVariants as trivia_part
use Rattle.js_tree.specs.declared.token.TokenClass.{TokenClass}
use Rattle.js_tree.specs.declared.token.TokenClass.TheVariants as class
use Rattle.js_tokens.proofs.FrontLemmas.{one_longest, last_step, digit_ascii, some_closed}
use Rattle.js_tokens.proofs.MarkLemmas.{mark_ascii}
use Rattle.js_tokens.specs.Fronts.{StandsFor, IsFoundFor}
use Rattle.js_tokens.specs.Places.{IsCutAt, IsCutFor, IsRaw, NoToken, IsFault, IsOfCut}
use Rattle.js_tokens.specs.Reading.{Reached}
use Rattle.js_tokens.specs.declared.cut.Cut.{Cut}
use Rattle.js_tokens.specs.declared.fault.LexFault.TheVariants as fault
use Rattle.js_tokens.specs.declared.fault.Unclosed.{Unclosed}
use Rattle.js_tokens.specs.declared.front.Front.{Front}
use Rattle.js_tokens.specs.declared.front.Found.{Found}
use Rattle.js_tokens.specs.declared.front.Found.TheVariants as found
use Rattle.js_tokens.specs.declared.goal.Goal.{Goal}
use Rattle.js_tokens.specs.declared.lexer.Raw.{Raw}

-- trivia reaches somewhere: no bytes are trivia
pub trivia_longest : (at : ℕ) (text : List ℕ) (n : ℕ) → Reached (IsTrivia at) text n → Longest (IsTrivia at) text n
trivia_longest at text zero r = record { within = r.within; holds = record { utf8 = IsUtf8-nil; ends = ap (λ cs. trivia.may_end (fold trivia.next (begin_trivia at) cs)) chars-nil ∙ by_front (at == 0) }; none_longer = r.none }
  where
    by_front : (b : Bool) → trivia.may_end (if b then trivia_part.Front else trivia_part.Between) ≡ true
    by_front true = refl
    by_front false = refl
trivia_longest at text (suc n) r = record { within = r.within; holds = r.ends (omega arith); none_longer = r.none }

within_ascii : (q c : ℕ) → is_quote q ≡ true → quoted.may_end (quoted.within q c) ≡ true → c < 128
within_ascii q c h e = grind (arith, nat_tests)

returned_ascii : (q c : ℕ) → is_quote q ≡ true → quoted.may_end (quoted.next q quoted_part.Returned c) ≡ true → c < 128
returned_ascii q c h e = grind (arith, nat_tests)

dollar_ascii : (m c : ℕ) → template.may_end (template.next m template_part.Dollar c) ≡ true → c < 128
dollar_ascii m c e = grind (arith, nat_tests)

tick_ascii : (c : ℕ) → template.may_end (template.within c) ≡ true → c < 128
tick_ascii c e = grind (arith, nat_tests)

-- a token has bytes, and ends where a character ends
string_ascii : (q : ℕ) (p : StringPart) (c : ℕ) → is_quote q ≡ true → quoted.may_end (quoted.next q p c) ≡ true → c < 128
string_ascii q quoted_part.Front c h e = absurd (no_end (c == q) e)
  where
    no_end : (b : Bool) → quoted.may_end (if b then quoted_part.Within else quoted_part.Broken) ≡ true → ⊥
    no_end true e = true≢false (sym e)
    no_end false e = true≢false (sym e)
string_ascii q quoted_part.Within c h e = within_ascii q c h e
string_ascii q quoted_part.Passing c h e = absurd (no_end (c == 13) e)
  where
    no_end : (b : Bool) → quoted.may_end (if b then quoted_part.Returned else quoted_part.Within) ≡ true → ⊥
    no_end true e = true≢false (sym e)
    no_end false e = true≢false (sym e)
string_ascii q quoted_part.Returned c h e = returned_ascii q c h e
string_ascii q quoted_part.Closed c h e = absurd (true≢false (sym e))
string_ascii q quoted_part.Broken c h e = absurd (true≢false (sym e))

template_ascii : (m : ℕ) (p : TemplatePart) (c : ℕ) → template.may_end (template.next m p c) ≡ true → c < 128
template_ascii m template_part.Front c e = absurd (no_end (c == m) e)
  where
    no_end : (b : Bool) → template.may_end (if b then template_part.Within else template_part.Broken) ≡ true → ⊥
    no_end true e = true≢false (sym e)
    no_end false e = true≢false (sym e)
template_ascii m template_part.Within c e = tick_ascii c e
template_ascii m template_part.Passing c e = absurd (true≢false (sym e))
template_ascii m template_part.Dollar c e = dollar_ascii m c e
template_ascii m template_part.Opened c e = absurd (true≢false (sym e))
template_ascii m template_part.Closed c e = absurd (true≢false (sym e))
template_ascii m template_part.Broken c e = absurd (true≢false (sym e))

closed_end : (p : TemplatePart) → template.is_closed p ≡ true → template.may_end p ≡ true
closed_end template_part.Closed h = refl
closed_end _ h = absurd (true≢false (sym h))

opened_end : (p : TemplatePart) → template.is_opened p ≡ true → template.may_end p ≡ true
opened_end template_part.Opened h = refl
opened_end _ h = absurd (true≢false (sym h))

some_read : {S : Type 0} (next : S → ℕ → S) (may_end : S → Bool) (from : S) (text : List ℕ) (n : ℕ) → ReadsBytes next may_end from (take n text) → may_end from ≡ false → 0 < n
some_read next may_end from text zero h start = absurd (true≢false (sym h ∙ start))
some_read next may_end from text (suc n) h start = omega arith

-- behind a byte of ASCII a character ends
after : (text : List ℕ) (n : ℕ) → IsUtf8 text → 0 < n → n ≤ length text → get_or text (n - 1) 0 < 128 → IsCharBoundary text n
after text n u some le low =
    let next : n - 1 + 1 ≡ n = omega arith in
    let below : n - 1 < length text = omega arith in
    subst (IsCharBoundary text) next (IsCharBoundary-after_ascii text (n - 1) u below low)

template_after : (m : ℕ) (text : List ℕ) (n : ℕ) → IsUtf8 text → n ≤ length text → template.may_end (fold (template.next m) template_part.Front (take n text)) ≡ true → IsCharBoundary text n
template_after m text n u le h =
    let some = some_read (template.next m) template.may_end template_part.Front text n h refl in
    let last = last_step (template.next m) template.may_end template_part.Front text n h some le in
    after text n u some le (template_ascii m last.0 (get_or text (n - 1) 0) last.1)

pub token_boundary : (c : TokenClass) (text : List ℕ) (n : ℕ) → IsUtf8 text → Stands c text n → IsCharBoundary text n
token_boundary class.Name text n u s = IsCharBoundary-from_take text n u s.longest.within s.longest.holds.utf8
token_boundary class.Word text n u s = IsCharBoundary-from_take text n u s.longest.within s.longest.holds.utf8
token_boundary class.Regex text n u s = IsCharBoundary-from_take text n u s.longest.within s.longest.holds.utf8
token_boundary class.Number text n u s =
    let some = some_read number.next number.may_end number_part.Front text n s.longest.holds refl in
    let last = last_step number.next number.may_end number_part.Front text n s.longest.holds some s.longest.within in
    after text n u some s.longest.within (digit_ascii last.0 (get_or text (n - 1) 0) last.1)
token_boundary class.Str text n u s =
    let some = some_closed text n s.longest.holds in
    let q : ℕ = get_or (take n text) 0 0 in
    let last = last_step (quoted.next q) quoted.may_end quoted_part.Front text n s.longest.holds.1 some s.longest.within in
    after text n u some s.longest.within (string_ascii q last.0 (get_or text (n - 1) 0) s.longest.holds.0 last.1)
token_boundary class.TemplateWhole text n u s = template_after 96 text n u s.longest.within (closed_end _ s.longest.holds)
token_boundary class.TemplateHead text n u s = template_after 96 text n u s.longest.within (opened_end _ s.longest.holds)
token_boundary class.TemplateMiddle text n u s = template_after 125 text n u s.longest.within (opened_end _ s.longest.holds)
token_boundary class.TemplateTail text n u s = template_after 125 text n u s.longest.within (closed_end _ s.longest.holds)
token_boundary class.Punct text n u s = let low = mark_ascii text n s.longest.within s.longest.holds in after text n u low.0 s.longest.within low.1
token_boundary class.End text n u s = absurd s.longest.holds

-- behind the gap of a cut
pub cut_boundary : (left : List ℕ) (at gap : ℕ) → IsUtf8 left → Longest (IsTrivia at) left gap → IsCharBoundary left gap
cut_boundary left at gap u long = IsCharBoundary-from_take left gap u long.within long.holds.utf8

pub front_boundary : (left : List ℕ) (at gap : ℕ) (c : TokenClass) (n : ℕ) → IsUtf8 left → Longest (IsTrivia at) left gap → Stands c (drop gap left) n → IsCharBoundary left (gap + n)
front_boundary left at gap c n u long s =
    IsCharBoundary-from_rest left gap n long.within (token_boundary c (drop gap left) n (IsUtf8-drop left gap u (cut_boundary left at gap u long)) s)

-- what was found behind the trivia
pub cut_found : (g : Goal) (left space rest : List ℕ) (at gap : ℕ) (nl fresh : Bool) (r : Found) → Longest (IsTrivia at) left gap → nl ≡ has_line_end space → space ≡ take gap left
    → rest ≡ drop gap left → fresh ≡ (at == 0 || nl) → IsFoundFor g fresh rest r → IsCutAt g (record { left = left; at = at }) (record { gap = gap; nl_before = nl; found = r })
cut_found g left space rest at gap nl fresh r long line front back is found =
    let lines : nl ≡ has_line_end (take gap left) = line ∙ ap has_line_end front in
    let same : fresh ≡ is_fresh at (take gap left) = is ∙ ap (λ (b : Bool). at == 0 || b) lines in
    record { trivia = long; line = lines; found = subst (λ (b : Bool). IsFoundFor g b (drop gap left) r) same (subst (λ (t : List ℕ). IsFoundFor g fresh t r) back found) }

pub cut_only : (g : Goal) (left space rest : List ℕ) (at gap : ℕ) (nl fresh : Bool) (r : Found) → nl ≡ has_line_end space → space ≡ take gap left
    → rest ≡ drop gap left → fresh ≡ (at == 0 || nl) → ((c : TokenClass) (n : ℕ) → StandsFor g fresh c rest n → r ≡ found.Token (record { class = c; len = n }))
    → (c : TokenClass) (n : ℕ) → StandsFor g (is_fresh at (take gap left)) c (drop gap left) n → r ≡ found.Token (record { class = c; len = n })
cut_only g left space rest at gap nl fresh r line front back is only c n s =
    let lines : nl ≡ has_line_end (take gap left) = line ∙ ap has_line_end front in
    let same : fresh ≡ is_fresh at (take gap left) = is ∙ ap (λ (b : Bool). at == 0 || b) lines in
    only c n (subst (λ (b : Bool). StandsFor g b c rest n) (sym same) (subst (λ (t : List ℕ). StandsFor g (is_fresh at (take gap left)) c t n) (sym back) s))

pub found_boundary : (g : Goal) (fresh : Bool) (left : List ℕ) (at gap : ℕ) (r : Found) (f : Front) → IsUtf8 left → Longest (IsTrivia at) left gap → IsFoundFor g fresh (drop gap left) r → r ≡ found.Token f → IsCharBoundary left (gap + f.len)
found_boundary g fresh left at gap r f u long h e = front_boundary left at gap f.class f.len u long (subst (λ (x : Found). IsFoundFor g fresh (drop gap left) x) e h).stands

-- the token as it stands in the text
pub raw_found : (g : Goal) (p : Place) (r : Cut) (f : Front) (raw : Raw) → IsCutAt g p r → r.found ≡ found.Token f → raw.class ≡ f.class → raw.text.now ≡ take f.len (drop r.gap p.left)
    → raw.start ≡ p.at + r.gap → raw.nl_before ≡ r.nl_before → IsRaw g p raw
raw_found g p r f raw cut e class text start line =
    let stands : StandsFor g (is_fresh p.at (take r.gap p.left)) f.class (drop r.gap p.left) f.len = subst (λ (x : Found). IsFoundFor g (is_fresh p.at (take r.gap p.left)) (drop r.gap p.left) x) e cut.found in
    let size : length raw.text.now ≡ f.len = ap length text ∙ length-take-le f.len (drop r.gap p.left) stands.stands.longest.within in
    let base : IsCutFor g p r.gap f.class f.len = record { trivia = cut.trivia; stands = stands } in
    record {
      gap = r.gap;
      here = inl (subst (λ (k : ℕ). IsCutFor g p r.gap raw.class k) (sym size) (subst (λ (c : TokenClass). IsCutFor g p r.gap c f.len) (sym class) base));
      start = start;
      line = line ∙ cut.line;
      text = text ∙ ap (λ (k : ℕ). take k (drop r.gap p.left)) (sym size);
    }

at_gap : (g : Goal) (p : Place) (r : Cut) (gap : ℕ) (c : TokenClass) (n : ℕ) → IsCutAt g p r → IsCutFor g p gap c n → (gap ≡ r.gap) × StandsFor g (is_fresh p.at (take r.gap p.left)) c (drop r.gap p.left) n
at_gap g p r gap c n cut s =
    let same = one_longest (IsTrivia p.at) p.left gap r.gap s.trivia cut.trivia in
    (same, subst (λ (k : ℕ). StandsFor g (is_fresh p.at (take k p.left)) c (drop k p.left) n) same s.stands)

pub raw_only : (g : Goal) (p : Place) (r : Cut) (f : Front) (raw : Raw) → IsCutAt g p r → ((c : TokenClass) (n : ℕ) → StandsFor g (is_fresh p.at (take r.gap p.left)) c (drop r.gap p.left) n → r.found ≡ found.Token (record { class = c; len = n }))
    → r.found ≡ found.Token f → raw.class ≡ f.class → raw.text.now ≡ take f.len (drop r.gap p.left) → raw.start ≡ p.at + r.gap → (gap : ℕ) (c : TokenClass) (n : ℕ) → IsCutFor g p gap c n → IsOfCut p gap c n raw
raw_only g p r f raw cut only e class text start gap c n s =
    let at = at_gap g p r gap c n cut s in
    let is : ◌≡◌ {A = Found} (found.Token f) (found.Token (record { class = c; len = n })) = sym e ∙ only c n at.1 in
    let one : ◌≡◌ {A = Front} f (record { class = c; len = n }) = cc in
    let stands : StandsFor g (is_fresh p.at (take r.gap p.left)) f.class (drop r.gap p.left) f.len = subst (λ (x : Found). IsFoundFor g (is_fresh p.at (take r.gap p.left)) (drop r.gap p.left) x) e cut.found in
    record {
      class = class ∙ ap (λ (x : Front). x.class) one;
      start = start ∙ ap (λ (k : ℕ). p.at + k) (sym at.0);
      size = ap length text ∙ length-take-le f.len (drop r.gap p.left) stands.stands.longest.within ∙ ap (λ (x : Front). x.len) one;
    }

abbrev no_token : (g : Goal) (p : Place) (r : Cut) (at : ℕ) → IsCutAt g p r → ((c : TokenClass) (n : ℕ) → StandsFor g (is_fresh p.at (take r.gap p.left)) c (drop r.gap p.left) n → ⊥) → at ≡ p.at + r.gap → NoToken g p at
no_token g p r at cut none e = record { gap = r.gap; trivia = cut.trivia; place = e; none = none }

pub open_fault : (g : Goal) (p : Place) (r : Cut) (what : Unclosed) (at : ℕ) → IsCutAt g p r → ((c : TokenClass) (n : ℕ) → StandsFor g (is_fresh p.at (take r.gap p.left)) c (drop r.gap p.left) n → r.found ≡ found.Token (record { class = c; len = n }))
    → r.found ≡ found.Open what → at ≡ p.at + r.gap → IsFault g p (fault.Unclosed at what)
open_fault g p r what at cut only e is =
    (no_token g p r at cut (λ c n s. apart c n (sym e ∙ only c n s)) is, subst (λ (x : Found). IsFoundFor g (is_fresh p.at (take r.gap p.left)) (drop r.gap p.left) x) e cut.found)
  where
    apart : (c : TokenClass) (n : ℕ) → ◌≡◌ {A = Found} (found.Open what) (found.Token (record { class = c; len = n })) → ⊥
    apart c n h = cc

pub char_fault : (g : Goal) (p : Place) (r : Cut) (at : ℕ) → IsCutAt g p r → ((c : TokenClass) (n : ℕ) → StandsFor g (is_fresh p.at (take r.gap p.left)) c (drop r.gap p.left) n → r.found ≡ found.Token (record { class = c; len = n }))
    → r.found ≡ found.Nothing → at ≡ p.at + r.gap → r.gap < length p.left → IsFault g p (fault.Char at)
char_fault g p r at cut only e is lt =
    (no_token g p r at cut (λ c n s. apart c n (sym e ∙ only c n s)) is, λ none. absurd (omega (arith, ap length none, length-drop r.gap p.left)), subst (λ (x : Found). IsFoundFor g (is_fresh p.at (take r.gap p.left)) (drop r.gap p.left) x) e cut.found)
  where
    apart : (c : TokenClass) (n : ℕ) → ◌≡◌ {A = Found} found.Nothing (found.Token (record { class = c; len = n })) → ⊥
    apart c n h = cc

pub raw_end : (g : Goal) (p : Place) (r : Cut) (raw : Raw) → IsCutAt g p r → length p.left ≤ r.gap → raw.class ≡ class.End → raw.text.now ≡ drop r.gap p.left → raw.start ≡ p.at + r.gap → raw.nl_before ≡ r.nl_before → IsRaw g p raw
raw_end g p r raw cut all class text start line =
    let ends : drop r.gap p.left ≡ [] = drop_all r.gap p.left all in
    let size : length raw.text.now ≡ 0 = ap length (text ∙ ends) in
    record {
      gap = r.gap;
      here = inr (record { trivia = cut.trivia; class = class; size = size; ends = ends });
      start = start;
      line = line ∙ cut.line;
      text = text ∙ ends ∙ ap (λ (k : ℕ). take k (drop r.gap p.left)) (sym size);
    }

pub raw_size : (g : Goal) (p : Place) (r : Cut) (f : Front) (text : List ℕ) → IsCutAt g p r → r.found ≡ found.Token f → text ≡ take f.len (drop r.gap p.left) → length text ≡ f.len
raw_size g p r f text cut e is =
    let stands : StandsFor g (is_fresh p.at (take r.gap p.left)) f.class (drop r.gap p.left) f.len = subst (λ (x : Found). IsFoundFor g (is_fresh p.at (take r.gap p.left)) (drop r.gap p.left) x) e cut.found in
    ap length is ∙ length-take-le f.len (drop r.gap p.left) stands.stands.longest.within
