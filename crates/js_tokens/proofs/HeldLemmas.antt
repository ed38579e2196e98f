-- What is held of the next token.
use Rattle.std.proofs.Common.{◌≡◌, ℕ, zero, suc, ◌+◌, ◌-◌, ◌<◌, ◌≤◌, ◌^◌, ◌&&◌, nat_lt, ⊎_elim, ◌⊎◌, inl, inr, Bool, true, false, List, [], ◌∷◌, length, take, drop, get_or, refl, sym, ap, ◌∙◌, subst, arith, true≢false, Ok, Err}
use Rattle.std.proofs.lemmas.Bool.Decides.{nat_tests}
use Rattle.std.proofs.lemmas.List.{length-drop}
use Rattle.std.specs.List.{list_all}
use Rattle.js_tree.specs.Lexical.{Stands, IsTrivia, Next, has_line_end, is_fresh}
use Rattle.js_tree.specs.Lexical.Mark.{marks}
use Rattle.js_tree.specs.Lexing.{Longest, Place, ahead, is_word, place_in, words}
use Rattle.js_tree.specs.Pieces.{kind, one}
use Rattle.js_tree.specs.TokenKinds.{kind_of, word_kinds}
use Rattle.js_tree.specs.declared.token.Token.{Token}
use Rattle.js_tree.specs.declared.token.TokenClass.{TokenClass}
use Rattle.js_tree.specs.declared.token.TokenClass.TheVariants as class
use Rattle.js_tree.specs.declared.token_kind.TokenKind.{TokenKind}
use Rattle.js_tree.specs.declared.token_kind.TokenKind.TheVariants as kinds
use Rattle.js_tokens.proofs.FrontLemmas.{one_longest}
use Rattle.js_tokens.proofs.AheadLemmas.{each, some_size, Twin, twin, one_next, cut_for, none_at_end, admits_reads}
use Rattle.js_tokens.specs.Ahead.{offset_of, reads, IsTwin, IsNextKind, IsNextLine, IsNextFor, NoneFor, IsHeld}
use Rattle.js_tokens.specs.Fronts.{StandsFor}
use Rattle.js_tokens.specs.Pieces.{OnlyRead, Any, Anywhere, Reads}
use Rattle.js_tokens.specs.Places.{IsRaw, IsCutFor, IsEnd, IsFault, NoToken}
use Rattle.js_tokens.specs.declared.fault.TokenFault.{TokenFault}
use Rattle.js_tokens.specs.declared.fault.LexFault.{LexFault}
use Rattle.js_tokens.specs.declared.fault.LexFault.TheVariants as fault
use Rattle.js_tokens.specs.declared.goal.Goal.{Goal}
use Rattle.js_tokens.specs.declared.goal.Goal.TheVariants as goal
use Rattle.js_tokens.specs.declared.lexer.Ahead.{Ahead}
use Rattle.js_tokens.specs.declared.lexer.Raw.{Raw}
use Rattle.js_tokens.specs.declared.reader.Held.{Held}

abbrev is_token : TokenKind → Bool
is_token kinds.End = false
is_token _ = true

not_end : (k : TokenKind) → is_token k ≡ true → k ≡ kinds.End → ⊥
not_end k h e = true≢false (sym h ∙ ap is_token e)

at_index : (test : TokenKind → Bool) (ks : List TokenKind) (i : ℕ) (d : TokenKind) → list_all test ks ≡ true → i < length ks → test (get_or ks i d) ≡ true
at_index test [] i d a lt = absurd (omega (arith, lt))
at_index test (k ∷ ks) zero d a lt = first (test k) (list_all test ks) a
  where
    first : (a b : Bool) → (a && b) ≡ true → a ≡ true
    first true b e = refl
    first false b e = absurd (true≢false (sym e))
at_index test (k ∷ ks) (suc i) d a lt = at_index test ks i d (others (test k) (list_all test ks) a) (omega (arith, lt))
  where
    others : (a b : Bool) → (a && b) ≡ true → b ≡ true
    others true b e = e
    others false b e = absurd (true≢false (sym e))

in_table : (text : List ℕ) → is_word text ≡ true → place_in words text < 37
in_table text h = below (place_in words text) h
  where
    below : (n : ℕ) → nat_lt n 37 ≡ true → n < 37
    below n e = grind (arith, nat_tests)

some_kind : (c : TokenClass) (text : List ℕ) (n : ℕ) → Stands c text n → is_token (kind_of c (take n text)) ≡ true
some_kind class.Name text n s = refl
some_kind class.Word text n s = at_index is_token word_kinds (place_in words (take n text)) kinds.End refl (in_table (take n text) s.right)
some_kind class.Number text n s = refl
some_kind class.Str text n s = refl
some_kind class.TemplateWhole text n s = refl
some_kind class.TemplateHead text n s = refl
some_kind class.TemplateMiddle text n s = refl
some_kind class.TemplateTail text n s = refl
some_kind class.Regex text n s = refl
some_kind class.Punct text n s = each (λ m. is_token (kind_of class.Punct m)) (take n text) marks refl s.longest.holds
some_kind class.End text n s = absurd s.longest.holds

-- a token has a kind
pub kind_some : (p q : Place) (t : Token) → Next p t q → kind t ≡ kinds.End → ⊥
kind_some p q t a e = not_end (kind t) (ap (λ (x : List ℕ). is_token (kind_of t.class x)) a.text ∙ some_kind t.class (drop a.gap p.left) (length t.text) a.cut.stands) e

-- the token of what was cut
abbrev pub token_of : Raw → Token
token_of r = record { text = r.text.now; start = r.start; class = r.class; nl_before = r.nl_before }

-- it stands next, before this place
pub record Cut (g : Goal) (p : Place) (r : Raw) : Type 0 where
  pub behind : Place
  pub next : Next p (record { text = r.text.now; start = r.start; class = r.class; nl_before = r.nl_before }) behind
  pub place : behind ≡ ahead p (r.start - p.at + length r.text.now)
  pub read : reads g (kind_of r.class r.text.now) ≡ true

pub cut_next : (g : Goal) (p : Place) (r : Raw) → IsRaw g p r → (r.class ≡ class.End → ⊥) → Cut g p r
cut_next g p r raw some = ⊎_elim (λ (c : IsCutFor g p raw.gap r.class (length r.text.now)). found c) (λ (e : IsEnd p raw.gap r.class (length r.text.now)). absurd (some e.class)) raw.here
  where
    found : IsCutFor g p raw.gap r.class (length r.text.now) → Cut g p r
    found c = record {
      behind = ahead p (raw.gap + length r.text.now);
      next = record {
        gap = raw.gap;
        cut = record { trivia = c.trivia; free = c.stands.free; stands = c.stands.stands };
        line = raw.line;
        start = raw.start;
        text = raw.text;
        after = refl;
      };
      place = let sum : raw.gap + length r.text.now ≡ r.start - p.at + length r.text.now = omega (arith, raw.start) in ap (ahead p) sum;
      read = ap (λ (x : List ℕ). reads g (kind_of r.class x)) raw.text ∙ sym (admits_reads g r.class (drop raw.gap p.left) (length r.text.now) c.stands.stands) ∙ c.stands.admits;
    }

gap_of : (g : Goal) (p : Place) (r : Raw) → (raw : IsRaw g p r) → Longest (IsTrivia p.at) p.left raw.gap
gap_of g p r raw = ⊎_elim (λ (c : IsCutFor g p raw.gap r.class (length r.text.now)). c.trivia) (λ (e : IsEnd p raw.gap r.class (length r.text.now)). e.trivia) raw.here

none_of_end : {text : List ℕ} {n : ℕ} → Stands class.End text n → ⊥
none_of_end s = s.longest.holds

-- at the end of the text no token stands
pub none_behind : (g : Goal) (p : Place) (r : Raw) → IsRaw g p r → r.class ≡ class.End → (t : Token) (q : Place) → Next p t q → ⊥
none_behind g p r raw is t q a = ⊎_elim (λ (c : IsCutFor g p raw.gap r.class (length r.text.now)). cut c) (λ (e : IsEnd p raw.gap r.class (length r.text.now)). ended e) raw.here
  where
    cut : IsCutFor g p raw.gap r.class (length r.text.now) → ⊥
    cut c = none_of_end (subst (λ (k : TokenClass). Stands k (drop raw.gap p.left) (length r.text.now)) is c.stands.stands)

    ended : IsEnd p raw.gap r.class (length r.text.now) → ⊥
    ended e =
        let gap : a.gap ≡ raw.gap = one_longest (IsTrivia p.at) p.left a.gap raw.gap a.cut.trivia e.trivia in
        none_at_end t.class (length t.text) (subst (λ (x : List ℕ). Stands t.class x (length t.text)) (ap (λ (n : ℕ). drop n p.left) gap ∙ e.ends) a.cut.stands)

-- where the goal finds no token none of it stands
pub none_for : (g : Goal) (p : Place) (at : ℕ) → NoToken g p at → NoneFor g p
none_for g p at none t q a h =
    let c = cut_for g p q t a h in
    let gap : a.gap ≡ none.gap = one_longest (IsTrivia p.at) p.left a.gap none.gap c.trivia none.trivia in
    none.none t.class (length t.text) (subst (λ (n : ℕ). StandsAt n) gap c.stands)
  where
    StandsAt : ℕ → Type 0
    StandsAt n = StandsFor g (is_fresh p.at (take n p.left)) t.class (drop n p.left) (length t.text)

pub no_token : (g : Goal) (p : Place) (e : LexFault) → IsFault g p e → NoToken g p (offset_of e)
no_token g p (fault.Char at) f = f.0
no_token g p (fault.Unclosed at what) f = f.0

-- what was cut is held
pub held_found : (p : Place) (h : Held) → IsRaw goal.Operator p h.next.raw → h.next.left.now ≡ drop (h.next.raw.start - p.at + length h.next.raw.text.now) p.left
    → h.kind ≡ kind_of h.next.raw.class h.next.raw.text.now → IsHeld p h
held_found p h raw left is = record {
  kind = record { some = some; all = all };
  line = line;
  start = record { gap = raw.gap; trivia = gap_of goal.Operator p h.next.raw raw; place = raw.start };
  next = λ k. record { raw = raw; some = not_ended k; left = left };
}
  where
    not_ended : (h.kind ≡ kinds.End → ⊥) → h.next.raw.class ≡ class.End → ⊥
    not_ended k e = k (is ∙ ap (λ (c : TokenClass). kind_of c h.next.raw.text.now) e)

    some : (h.kind ≡ kinds.End → ⊥) → (t : Token) × (n : Place) × Next p t n × (kind t ≡ h.kind)
    some k = let c = cut_next goal.Operator p h.next.raw raw (not_ended k) in (token_of h.next.raw, c.behind, c.next, sym is)

    line : IsNextLine p h.next.raw.nl_before
    line t q a =
        a.line ∙ ap (λ (n : ℕ). has_line_end (take n p.left)) (one_longest (IsTrivia p.at) p.left a.gap raw.gap a.cut.trivia (gap_of goal.Operator p h.next.raw raw)) ∙ sym raw.line

    Decided : Type 0
    Decided = (h.next.raw.class ≡ class.End) ⊎ (h.next.raw.class ≡ class.End → ⊥)

    decided : (c : TokenClass) → (c ≡ class.End) ⊎ (c ≡ class.End → ⊥)
    decided class.End = inl refl
    decided class.Name = inr (λ e. cc)
    decided class.Word = inr (λ e. cc)
    decided class.Number = inr (λ e. cc)
    decided class.Str = inr (λ e. cc)
    decided class.TemplateWhole = inr (λ e. cc)
    decided class.TemplateHead = inr (λ e. cc)
    decided class.TemplateMiddle = inr (λ e. cc)
    decided class.TemplateTail = inr (λ e. cc)
    decided class.Regex = inr (λ e. cc)
    decided class.Punct = inr (λ e. cc)

    all : (t : Token) (q : Place) → Next p t q → (kind t ≡ h.kind) ⊎ IsTwin (kind t) h.kind
    all t q a = ⊎_elim (λ (e : h.next.raw.class ≡ class.End). absurd (none_behind goal.Operator p h.next.raw raw e t q a))
        (λ (k : h.next.raw.class ≡ class.End → ⊥). as_cut (cut_next goal.Operator p h.next.raw raw k) (twin p q t a)) (decided h.next.raw.class)
      where
        as_cut : Cut goal.Operator p h.next.raw → Twin p t → (kind t ≡ h.kind) ⊎ IsTwin (kind t) h.kind
        as_cut c w =
            let one = one_next goal.Operator p w.behind c.behind w.token _ w.next c.next w.reads c.read in
            let same : kind w.token ≡ h.kind = ap kind one.0 ∙ sym is in
            subst (λ (k : TokenKind). (kind t ≡ k) ⊎ IsTwin (kind t) k) same w.alike

-- where no token begins none is held
pub held_none : (p : Place) (h : Held) (e : LexFault) → IsFault goal.Operator p e → h.kind ≡ kinds.End → h.next.raw.start ≡ offset_of e → IsHeld p h
held_none p h e f is start =
    let none = no_token goal.Operator p e f in
    record {
      kind = record { some = λ k. absurd (k is); all = λ t q a. absurd (nothing t q a) };
      line = λ t q a. absurd (nothing t q a);
      start = record { gap = none.gap; trivia = none.trivia; place = start ∙ none.place };
      next = λ k. absurd (k is);
    }
  where
    nothing : (t : Token) (q : Place) → Next p t q → ⊥
    nothing t q a = let w = twin p q t a in none_for goal.Operator p (offset_of e) (no_token goal.Operator p e f) w.token w.behind w.next w.reads

no_twin : (k : TokenKind) → IsTwin k kinds.End → ⊥
no_twin kinds.Regex h = ⊎_elim (λ (e : kinds.End ≡ kinds.Slash). cc) (λ (e : kinds.End ≡ kinds.SlashAssign). cc) h
no_twin kinds.TemplateMiddle h = cc
no_twin kinds.TemplateTail h = cc
no_twin _ h = h

-- where no kind stands next no token does
pub nothing_next : (p : Place) (k : TokenKind) → IsNextKind p k → k ≡ kinds.End → (t : Token) (q : Place) → Next p t q → ⊥
nothing_next p k is e t q a =
    ⊎_elim (λ (same : kind t ≡ k). kind_some p q t a (same ∙ e)) (λ (w : IsTwin (kind t) k). no_twin (kind t) (subst (λ (x : TokenKind). IsTwin (kind t) x) e w)) (is.all t q a)

-- what is taken where a token of the goal stands next
pub record Taken (g : Goal) (p q : Place) (t : Token) : Type 0 where
  pub next : Next p t q
  pub read : reads g (kind t) ≡ true
  pub shorter : length q.left < length p.left

pub taken : (g : Goal) (p q : Place) (next : Ahead) (text : List ℕ) → IsNextFor g p next → text ≡ next.raw.text.now → q ≡ ahead p (next.raw.start - p.at + length next.raw.text.now)
    → Taken g p q (record { text = text; start = next.raw.start; class = next.raw.class; nl_before = next.raw.nl_before })
taken g p q next text n is place =
    let c = cut_next g p next.raw n.raw n.some in
    let behind : q ≡ c.behind = place ∙ sym c.place in
    let same : ◌≡◌ {A = Token} (token_of next.raw) (record { text = text; start = next.raw.start; class = next.raw.class; nl_before = next.raw.nl_before }) =
    λ i. record { text = sym is i; start = next.raw.start; class = next.raw.class; nl_before = next.raw.nl_before } in
    let some = some_size next.raw.class (drop c.next.gap p.left) (length next.raw.text.now) c.next.cut.stands in
    let within = c.next.cut.stands.longest.within in
    let size : length q.left ≡ length p.left - (next.raw.start - p.at + length next.raw.text.now) = ap (λ (r : Place). length r.left) place ∙ length-drop (next.raw.start - p.at + length next.raw.text.now) p.left in
    record {
      next = subst (λ (t : Token). Next p t q) same (subst (λ (r : Place). Next p (token_of next.raw) r) (sym behind) c.next);
      read = ap (λ (x : List ℕ). reads g (kind_of next.raw.class x)) is ∙ c.read;
      shorter = omega (arith, size, some, within, length-drop c.next.gap p.left, c.next.start, c.next.cut.trivia.within);
    }

-- whatever could be read there is what was taken
pub taken_only : (g : Goal) (p q : Place) (t : Token) → Taken g p q t → (test : TokenKind → Bool) → ((k : TokenKind) → test k ≡ true → reads g k ≡ true)
    → OnlyRead (one test) (Any Token) (Anywhere Token) p q (Ok t)
taken_only g p q t is test plain u rest reads any anywhere =
    let same = one_next g p q reads.0 t u is.next reads.1 is.read (plain (kind u) reads.2) in
    (same.0, subst (λ (r : Place). Reads r rest) (sym same.1) reads.3)

pub none_only : (g : Goal) (p : Place) (e : TokenFault) → NoneFor g p → (test : TokenKind → Bool) → ((k : TokenKind) → test k ≡ true → reads g k ≡ true)
    → OnlyRead (one test) (Any Token) (Anywhere Token) p p (Err e)
none_only g p e none test plain u rest reads any anywhere = absurd (none u reads.0 reads.1 (plain (kind u) reads.2))

-- the place behind a token is within the text
pub fits : (g : Goal) (p : Place) (next : Ahead) → IsNextFor g p next → next.raw.start + length next.raw.text.now ≤ p.at + length p.left
fits g p next n =
    let c = cut_next g p next.raw n.raw n.some in
    omega (arith, c.next.cut.stands.longest.within, length-drop c.next.gap p.left, c.next.start, c.next.cut.trivia.within)

pub starts_behind : (g : Goal) (p : Place) (next : Ahead) → IsNextFor g p next → p.at ≤ next.raw.start
starts_behind g p next n = omega (arith, n.raw.start)

-- the same, where the place is given by an equal one
pub taken_at : (g : Goal) (at p q : Place) (next : Ahead) (text : List ℕ) → at ≡ p → IsNextFor g p next → text ≡ next.raw.text.now → q ≡ ahead at (next.raw.start - at.at + length next.raw.text.now)
    → Taken g p q (record { text = text; start = next.raw.start; class = next.raw.class; nl_before = next.raw.nl_before })
taken_at g at p q next text e n is place = taken g p q next text n is (place ∙ ap (λ (r : Place). ahead r (next.raw.start - r.at + length next.raw.text.now)) e)

pub fits_at : (g : Goal) (at p : Place) (next : Ahead) → at ≡ p → IsNextFor g p next → at.at + length at.left < 2 ^ 32
    → (next.raw.start + length next.raw.text.now < 2 ^ 32) × (next.raw.start + length next.raw.text.now + length next.left.now < 2 ^ 32)
fits_at g at p next e n small =
    let within = fits g p next n in
    let size : length next.left.now ≡ length p.left - (next.raw.start - p.at + length next.raw.text.now) = ap length n.left ∙ length-drop (next.raw.start - p.at + length next.raw.text.now) p.left in
    let low : p.at + length p.left < 2 ^ 32 = subst (λ (r : Place). r.at + length r.left < 2 ^ 32) e small in
    (omega (arith, within, low), omega (arith, within, low, size, starts_behind g p next n))
