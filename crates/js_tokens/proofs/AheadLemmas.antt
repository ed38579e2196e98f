-- The token that stands next, by either reading of `/` and `}`.
use Rattle.std.proofs.Common.{◌≡◌, ℕ, zero, suc, ◌+◌, ◌<◌, ◌≤◌, ◌==◌, ◌&&◌, ◌||◌, not, ⊎_elim, ◌⊎◌, inl, inr, Bool, true, false, List, [], ◌∷◌, length, take, drop, get_or, refl, sym, ap, ◌∙◌, subst, arith, true≢false, if◌then◌else◌}
use Rattle.std.proofs.lemmas.List.{length-take-le, get_or-take}
use Rattle.std.proofs.lemmas.Slice.Eq.{bytes_eq-Decides}
use Rattle.std.specs.List.{list_any, list_all, fold}
use Rattle.std.specs.Str.{bytes_eq}
use Rattle.js_tree.specs.Lexical.{Stands, Reaches, IsTrivia, Next, has_line_end, is_fresh}
use Rattle.js_tree.specs.Lexical.Mark.{marks, is_mark}
use Rattle.js_tree.specs.Lexical.Template as template
use Rattle.js_tree.specs.Lexing.{Place, ahead, place_in, words}
use Rattle.js_tree.specs.Pieces.{kind}
use Rattle.js_tree.specs.TokenKinds.{kind_of, word_kinds}
use Rattle.js_tree.specs.declared.token.Token.{Token}
use Rattle.js_tree.specs.declared.token.TokenClass.{TokenClass}
use Rattle.js_tree.specs.declared.token.TokenClass.TheVariants as class
use Rattle.js_tree.specs.declared.token_kind.TokenKind.{TokenKind}
use Rattle.js_tree.specs.declared.token_kind.TokenKind.TheVariants as kinds
use Rattle.js_tokens.proofs.FrontLemmas.{one_longest, no_number, no_regex, no_identifier, some_closed}
use Rattle.js_tokens.proofs.MarkLemmas.{accepted, mark_ascii}
use Rattle.js_tokens.proofs.SortLemmas.{regex_begins, begins_mark, same_number}
use Rattle.js_tokens.proofs.TokenLemmas.{sorted, one_token}
use Rattle.js_tokens.specs.Ahead.{reads, IsTwin}
use Rattle.js_tokens.specs.Fronts.{admits, StandsFor}
use Rattle.js_tokens.specs.Marks as marks
use Rattle.js_tokens.specs.Places.{IsCutFor}
use Rattle.js_tokens.specs.declared.goal.Goal.{Goal}
use Rattle.js_tokens.specs.declared.goal.Goal.TheVariants as goal
use Rattle.js_tokens.specs.declared.mark.MarkPart.TheVariants as mark_part

front : (a b : Bool) → (a && b) ≡ true → a ≡ true
front true b e = refl
front false b e = absurd (true≢false (sym e))

back : (a b : Bool) → (a && b) ≡ true → b ≡ true
back true b e = e
back false b e = absurd (true≢false (sym e))

-- what holds of each text of a list holds of a text that is in it
pub each : (test : List ℕ → Bool) (t : List ℕ) (ms : List (List ℕ)) → list_all test ms ≡ true → list_any (bytes_eq t) ms ≡ true → test t ≡ true
each test t [] a h = absurd (true≢false (sym h))
each test t (m ∷ ms) a h = by_first (bytes_eq t m) refl h (each test t ms (back (test m) (list_all test ms) a))
  where
    by_first : (b : Bool) → bytes_eq t m ≡ b → (b || list_any (bytes_eq t) ms) ≡ true → (list_any (bytes_eq t) ms ≡ true → test t ≡ true) → test t ≡ true
    by_first true e h others = ap test ((bytes_eq-Decides t m).0 e) ∙ front (test m) (list_all test ms) a
    by_first false e h others = others h

-- what holds of each item of a list and of the default holds at each index
at_each : (test : TokenKind → Bool) (ks : List TokenKind) (i : ℕ) (d : TokenKind) → list_all test ks ≡ true → test d ≡ true → test (get_or ks i d) ≡ true
at_each test [] i d a e = e
at_each test (k ∷ ks) zero d a e = front (test k) (list_all test ks) a
at_each test (k ∷ ks) (suc i) d a e = at_each test ks i d (back (test k) (list_all test ks) a) e

same : Bool → Bool → Bool
same true b = b
same false b = not b

alike : (a b : Bool) → same a b ≡ true → a ≡ b
unfolding same
alike true true e = refl
alike true false e = absurd (true≢false (sym e))
alike false true e = absurd (true≢false (sym e))
alike false false e = refl

abbrev mark_check : Goal → List ℕ → Bool
mark_check g m = same (admits g class.Punct (get_or m 0 0)) (reads g (kind_of class.Punct m))

mark_checks : (g : Goal) → list_all (mark_check g) marks ≡ true
unfolding same
mark_checks goal.Operand = refl
mark_checks goal.Operator = refl
mark_checks goal.Template = refl

head : (text : List ℕ) (n : ℕ) → 0 < n → get_or (take n text) 0 0 ≡ get_or text 0 0
head text n some = get_or-take n text 0 0 some

-- a goal reads a token's kind where it reads its class at its first byte
pub admits_reads : (g : Goal) (c : TokenClass) (text : List ℕ) (n : ℕ) → Stands c text n → admits g c (get_or text 0 0) ≡ reads g (kind_of c (take n text))
admits_reads g class.Punct text n s =
    ap (admits g class.Punct) (sym (head text n (mark_ascii text n s.longest.within s.longest.holds).0))
    ∙ alike _ _ (each (mark_check g) (take n text) marks (mark_checks g) s.longest.holds)
admits_reads goal.Operand class.Word text n s = sym (at_each (reads goal.Operand) word_kinds (place_in words (take n text)) kinds.End refl refl)
admits_reads goal.Operator class.Word text n s = sym (at_each (reads goal.Operator) word_kinds (place_in words (take n text)) kinds.End refl refl)
admits_reads goal.Template class.Word text n s = sym (at_each (reads goal.Template) word_kinds (place_in words (take n text)) kinds.End refl refl)
admits_reads goal.Operand class.Name text n s = refl
admits_reads goal.Operand class.Number text n s = refl
admits_reads goal.Operand class.Str text n s = refl
admits_reads goal.Operand class.TemplateWhole text n s = refl
admits_reads goal.Operand class.TemplateHead text n s = refl
admits_reads goal.Operand class.TemplateMiddle text n s = refl
admits_reads goal.Operand class.TemplateTail text n s = refl
admits_reads goal.Operand class.Regex text n s = refl
admits_reads goal.Operand class.End text n s = refl
admits_reads goal.Operator class.Name text n s = refl
admits_reads goal.Operator class.Number text n s = refl
admits_reads goal.Operator class.Str text n s = refl
admits_reads goal.Operator class.TemplateWhole text n s = refl
admits_reads goal.Operator class.TemplateHead text n s = refl
admits_reads goal.Operator class.TemplateMiddle text n s = refl
admits_reads goal.Operator class.TemplateTail text n s = refl
admits_reads goal.Operator class.Regex text n s = refl
admits_reads goal.Operator class.End text n s = refl
admits_reads goal.Template class.Name text n s = refl
admits_reads goal.Template class.Number text n s = refl
admits_reads goal.Template class.Str text n s = refl
admits_reads goal.Template class.TemplateWhole text n s = refl
admits_reads goal.Template class.TemplateHead text n s = refl
admits_reads goal.Template class.TemplateMiddle text n s = refl
admits_reads goal.Template class.TemplateTail text n s = refl
admits_reads goal.Template class.Regex text n s = refl
admits_reads goal.Template class.End text n s = refl

-- the token is one of the goal
pub cut_for : (g : Goal) (p q : Place) (t : Token) → (a : Next p t q) → reads g (kind t) ≡ true → IsCutFor g p a.gap t.class (length t.text)
cut_for g p q t a h =
    record {
      trivia = a.cut.trivia;
      stands = record {
        free = a.cut.free;
        stands = a.cut.stands;
        admits = admits_reads g t.class (drop a.gap p.left) (length t.text) a.cut.stands ∙ ap (λ (x : List ℕ). reads g (kind_of t.class x)) (sym a.text) ∙ h;
      };
    }

-- two tokens of one goal at one place are one, and so are the places behind them
pub one_next : (g : Goal) (p q r : Place) (t u : Token) → Next p t q → Next p u r → reads g (kind t) ≡ true → reads g (kind u) ≡ true → (t ≡ u) × (q ≡ r)
one_next g p q r t u a b h k =
    let gap : a.gap ≡ b.gap = one_longest (IsTrivia p.at) p.left a.gap b.gap a.cut.trivia b.cut.trivia in
    let s = (cut_for g p q t a h).stands in
    let v = subst (λ (x : ℕ). StandsFor g (is_fresh p.at (take x p.left)) u.class (drop x p.left) (length u.text)) (sym gap) (cut_for g p r u b k).stands in
    let text = drop a.gap p.left in
    let e = one_token t.class u.class text (length t.text) (length u.text) (sorted g t.class text (length t.text) s.stands s.admits ∙ sym (sorted g u.class text (length u.text) v.stands v.admits)) s.stands v.stands in
    let words : t.text ≡ u.text = a.text ∙ (λ i. take (e.size i) (drop (gap i) p.left)) ∙ sym b.text in
    let line : t.nl_before ≡ u.nl_before = a.line ∙ ap (λ (x : ℕ). has_line_end (take x p.left)) gap ∙ sym b.line in
    let start : t.start ≡ u.start = a.start ∙ ap (λ (x : ℕ). p.at + x) gap ∙ sym b.start in
    (λ i. record { text = words i; start = start i; class = e.class i; nl_before = line i }, a.after ∙ (λ i. ahead p (gap i + e.size i)) ∙ sym b.after)

-- a mark of one or two bytes at the front of a text
pub record Marked (text : List ℕ) (k : TokenKind) : Type 0 where
  pub size : ℕ
  pub stands : Stands class.Punct text size
  pub kind : kind_of class.Punct (take size text) ≡ k

dead : (bytes : List ℕ) → fold marks.next mark_part.Broken bytes ≡ mark_part.Broken
dead [] = refl
dead (b ∷ bs) = dead bs

refused : (bytes : List ℕ) → marks.may_end (fold marks.next mark_part.Broken bytes) ≡ true → ⊥
refused bytes h = true≢false (sym h ∙ ap marks.may_end (dead bytes))

pub brace : (text : List ℕ) → get_or text 0 0 ≡ 125 → Marked text kinds.RightBrace
brace [] e = absurd (omega (arith, e))
brace (b ∷ bs) e = subst (λ (x : ℕ). Marked (x ∷ bs) kinds.RightBrace) (sym e) (record {
  size = 1;
  stands = record { longest = record { within = omega arith; holds = refl; none_longer = longer bs }; right = refl };
  kind = refl;
})
  where
    longer : (bs : List ℕ) (k : ℕ) → 1 < k → k ≤ length (125 ∷ bs) → is_mark (take k (125 ∷ bs)) ≡ true → ⊥
    longer bs zero lt le h = absurd (omega (arith, lt))
    longer bs (suc zero) lt le h = absurd (omega (arith, lt))
    longer [] (suc (suc k)) lt le h = absurd (omega (arith, le))
    longer (d ∷ ds) (suc (suc k)) lt le h = refused (take k ds) (accepted (take (suc (suc k)) (125 ∷ d ∷ ds)) h)

slash_alone : (bs : List ℕ) → ((k : ℕ) → 1 < k → k ≤ length (47 ∷ bs) → is_mark (take k (47 ∷ bs)) ≡ true → ⊥) → Marked (47 ∷ bs) kinds.Slash
slash_alone bs longer = record {
  size = 1;
  stands = record { longest = record { within = omega arith; holds = refl; none_longer = longer }; right = refl };
  kind = refl;
}

slash_assign : (bs : List ℕ) → Marked (47 ∷ 61 ∷ bs) kinds.SlashAssign
slash_assign bs = record {
  size = 2;
  stands = record { longest = record { within = omega arith; holds = refl; none_longer = longer bs }; right = refl };
  kind = refl;
}
  where
    longer : (bs : List ℕ) (k : ℕ) → 2 < k → k ≤ length (47 ∷ 61 ∷ bs) → is_mark (take k (47 ∷ 61 ∷ bs)) ≡ true → ⊥
    longer bs zero lt le h = absurd (omega (arith, lt))
    longer bs (suc zero) lt le h = absurd (omega (arith, lt))
    longer bs (suc (suc zero)) lt le h = absurd (omega (arith, lt))
    longer [] (suc (suc (suc k))) lt le h = absurd (omega (arith, le))
    longer (d ∷ ds) (suc (suc (suc k))) lt le h = refused (take k ds) (accepted (take (suc (suc (suc k))) (47 ∷ 61 ∷ d ∷ ds)) h)

slash_by : (bs : List ℕ) → Marked (47 ∷ bs) kinds.Slash ⊎ Marked (47 ∷ bs) kinds.SlashAssign
slash_by [] = inl (slash_alone [] longer)
  where
    longer : (k : ℕ) → 1 < k → k ≤ length {A = ℕ} (47 ∷ []) → is_mark (take k (47 ∷ [])) ≡ true → ⊥
    longer k lt le h = absurd (omega (arith, lt, le))
slash_by (d ∷ ds) = by_test (d == 61) refl
  where
    other : (d == 61) ≡ false → (k : ℕ) → 1 < k → k ≤ length (47 ∷ d ∷ ds) → is_mark (take k (47 ∷ d ∷ ds)) ≡ true → ⊥
    other f zero lt le h = absurd (omega (arith, lt))
    other f (suc zero) lt le h = absurd (omega (arith, lt))
    other f (suc (suc k)) lt le h =
        refused (take k ds) (ap (λ (x : Bool). marks.may_end (fold marks.next (if x then mark_part.Done 42 else mark_part.Broken) (take k ds))) (sym f) ∙ accepted (take (suc (suc k)) (47 ∷ d ∷ ds)) h)

    by_test : (b : Bool) → (d == 61) ≡ b → Marked (47 ∷ d ∷ ds) kinds.Slash ⊎ Marked (47 ∷ d ∷ ds) kinds.SlashAssign
    by_test true f = inr (subst (λ (x : ℕ). Marked (47 ∷ x ∷ ds) kinds.SlashAssign) (sym (same_number d 61 f)) (slash_assign ds))
    by_test false f = inl (slash_alone (d ∷ ds) (other f))

pub slash : (text : List ℕ) → get_or text 0 0 ≡ 47 → Marked text kinds.Slash ⊎ Marked text kinds.SlashAssign
slash [] e = absurd (omega (arith, e))
slash (b ∷ bs) e = subst (λ (x : ℕ). Marked (x ∷ bs) kinds.Slash ⊎ Marked (x ∷ bs) kinds.SlashAssign) (sym e) (slash_by bs)

-- a token that a reader of operators takes where any token stands
pub record Twin (p : Place) (t : Token) : Type 0 where
  pub token : Token
  pub behind : Place
  pub next : Next p token behind
  pub reads : reads goal.Operator (kind token) ≡ true
  pub alike : (kind t ≡ kind token) ⊎ IsTwin (kind t) (kind token)

-- the mark that stands behind the trivia before a token
marked : (p q : Place) (t : Token) (k : TokenKind) → (a : Next p t q) → reads goal.Operator k ≡ true → IsTwin (kind t) k → Marked (drop a.gap p.left) k → Twin p t
marked p q t k a r twin m =
    let text : List ℕ = take m.size (drop a.gap p.left) in
    let size : length text ≡ m.size = length-take-le m.size (drop a.gap p.left) m.stands.longest.within in
    record {
      token = record { text = text; start = p.at + a.gap; class = class.Punct; nl_before = has_line_end (take a.gap p.left) };
      behind = ahead p (a.gap + length text);
      next = record {
        gap = a.gap;
        cut = record { trivia = a.cut.trivia; free = a.cut.free; stands = subst (λ (x : ℕ). Stands class.Punct (drop a.gap p.left) x) (sym size) m.stands };
        line = refl;
        start = refl;
        text = ap (λ (x : ℕ). take x (drop a.gap p.left)) (sym size);
        after = refl;
      };
      reads = ap (reads goal.Operator) m.kind ∙ r;
      alike = inr (subst (λ (x : TokenKind). IsTwin (kind t) x) (sym m.kind) twin);
    }

pub twin : (p q : Place) (t : Token) → Next p t q → Twin p t
twin p q t a = by_class t.class refl
  where
    own : reads goal.Operator (kind t) ≡ true → Twin p t
    own r = record { token = t; behind = q; next = a; reads = r; alike = inl refl }

    stands : (c : TokenClass) → t.class ≡ c → Stands c (drop a.gap p.left) (length t.text)
    stands c e = subst (λ (x : TokenClass). Stands x (drop a.gap p.left) (length t.text)) e a.cut.stands

    plain : (c : TokenClass) → t.class ≡ c → admits goal.Operator c (get_or (drop a.gap p.left) 0 0) ≡ true → Twin p t
    plain c e h = own (ap (λ (x : List ℕ). reads goal.Operator (kind_of t.class x)) a.text ∙ sym (admits_reads goal.Operator t.class (drop a.gap p.left) (length t.text) a.cut.stands)
        ∙ ap (λ (x : TokenClass). admits goal.Operator x (get_or (drop a.gap p.left) 0 0)) e ∙ h)

    is : (c : TokenClass) → t.class ≡ c → kind t ≡ kind_of c t.text
    is c e = ap (λ (x : TokenClass). kind_of x t.text) e

    by_class : (c : TokenClass) → t.class ≡ c → Twin p t
    by_class class.Regex e =
        ⊎_elim (λ (m : Marked (drop a.gap p.left) kinds.Slash). marked p q t kinds.Slash a refl (subst (λ (x : TokenKind). IsTwin x kinds.Slash) (sym (is class.Regex e)) (inl refl)) m)
        (λ (m : Marked (drop a.gap p.left) kinds.SlashAssign). marked p q t kinds.SlashAssign a refl (subst (λ (x : TokenKind). IsTwin x kinds.SlashAssign) (sym (is class.Regex e)) (inr refl)) m)
        (slash (drop a.gap p.left) (same_number (get_or (drop a.gap p.left) 0 0) 47 (regex_begins (drop a.gap p.left) (length t.text) (stands class.Regex e).longest.holds)))
    by_class class.TemplateMiddle e =
        marked p q t kinds.RightBrace a refl (subst (λ (x : TokenKind). IsTwin x kinds.RightBrace) (sym (is class.TemplateMiddle e)) refl)
        (brace (drop a.gap p.left) (same_number (get_or (drop a.gap p.left) 0 0) 125 (begins_mark 125 template.is_opened refl refl (drop a.gap p.left) (length t.text) (stands class.TemplateMiddle e).longest.holds)))
    by_class class.TemplateTail e =
        marked p q t kinds.RightBrace a refl (subst (λ (x : TokenKind). IsTwin x kinds.RightBrace) (sym (is class.TemplateTail e)) refl)
        (brace (drop a.gap p.left) (same_number (get_or (drop a.gap p.left) 0 0) 125 (begins_mark 125 template.is_closed refl refl (drop a.gap p.left) (length t.text) (stands class.TemplateTail e).longest.holds)))
    by_class class.Name e = plain class.Name e refl
    by_class class.Word e = plain class.Word e refl
    by_class class.Number e = plain class.Number e refl
    by_class class.Str e = plain class.Str e refl
    by_class class.TemplateWhole e = plain class.TemplateWhole e refl
    by_class class.TemplateHead e = plain class.TemplateHead e refl
    by_class class.Punct e = plain class.Punct e refl
    by_class class.End e = plain class.End e refl

-- no class reaches nothing
empty : (c : TokenClass) → Reaches c [] → ⊥
empty class.Name h = no_identifier h
empty class.Word h = no_identifier h
empty class.Number h = no_number h
empty class.Regex h = no_regex h
empty class.Str h = omega (arith, some_closed [] 0 h)
empty class.TemplateWhole h = true≢false (sym h)
empty class.TemplateHead h = true≢false (sym h)
empty class.TemplateMiddle h = true≢false (sym h)
empty class.TemplateTail h = true≢false (sym h)
empty class.Punct h = true≢false (sym h)
empty class.End h = h

-- a token has bytes
pub some_size : (c : TokenClass) (text : List ℕ) (n : ℕ) → Stands c text n → 0 < n
some_size c text zero s = absurd (empty c s.longest.holds)
some_size c text (suc n) s = omega arith

-- no token stands at the end of a text
pub none_at_end : (c : TokenClass) (n : ℕ) → Stands c [] n → ⊥
none_at_end c n s = omega (arith, some_size c [] n s, s.longest.within)
