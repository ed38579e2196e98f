-- The whole lexical grammar: what a list of tokens has to do with a text (ECMA-262, clause 11).
pub mod Character
pub mod Trivia
pub mod Name
pub mod Number
pub mod Quoted
pub mod Template
pub mod Regex
pub mod Mark
pub mod Value
use Rattle.std.specs.Prelude.{◌≡◌, ℕ, ◌+◌, ◌≤◌, ◌==◌, ◌&&◌, ◌||◌, Bool, true, false, List, [], ◌∷◌, length, take, drop, slice_index, nat_eq, codes, if◌then◌else◌}
use Rattle.std.specs.List.{list_any, fold, starts_with}
use Rattle.std.specs.Str.{IsUtf8, chars, bytes_eq}
use Rattle.js_tree.specs.declared.token.Token.{Token}
use Rattle.js_tree.specs.declared.token.TokenClass.{TokenClass}
use Rattle.js_tree.specs.declared.token.TokenClass.TheVariants as class
use Rattle.js_tree.specs.declared.part.TriviaPart.{TriviaPart}
use Rattle.js_tree.specs.declared.part.TriviaPart.TheVariants as trivia_part
use Rattle.js_tree.specs.declared.part.NumberPart.TheVariants as number_part
use Rattle.js_tree.specs.declared.part.StringPart.TheVariants as quoted_part
use Rattle.js_tree.specs.declared.part.EscapePart.TheVariants as escape_part
use Rattle.js_tree.specs.declared.part.TemplatePart.TheVariants as template_part
use Rattle.js_tree.specs.declared.part.RegexPart.TheVariants as regex_part
use Rattle.js_tree.specs.Lexing.{Longest, Place, ahead, start_of, is_word}
use Rattle.js_tree.specs.Lexical.Character.{is_line_end, is_start, is_digit, is_quote, begins}
use Rattle.js_tree.specs.Lexical.Trivia as trivia
use Rattle.js_tree.specs.Lexical.Name as name
use Rattle.js_tree.specs.Lexical.Number as number
use Rattle.js_tree.specs.Lexical.Quoted as quoted
use Rattle.js_tree.specs.Lexical.Template as template
use Rattle.js_tree.specs.Lexical.Regex as regex
use Rattle.js_tree.specs.Lexical.Mark.{is_mark}

-- the characters of the text lead from a part to one where a form may end
pub record Reads {S : Type 0} (next : S → ℕ → S) (may_end : S → Bool) (from : S) (text : List ℕ) : Type 0 where
  pub utf8 : IsUtf8 text
  pub ends : may_end (fold next from (chars text)) ≡ true

-- the bytes of the text do so: of a form to which ASCII alone matters
abbrev pub ReadsBytes : {S : Type 0} → (S → ℕ → S) → (S → Bool) → S → List ℕ → Type 0
ReadsBytes next may_end from text = may_end (fold next from text) ≡ true

-- where trivia begins: `#!` is trivia at the front of a text alone
abbrev pub begin_trivia : ℕ → TriviaPart
begin_trivia at = if at == 0 then trivia_part.Front else trivia_part.Between

-- what stands between tokens, from an offset of the text on (ECMA-262, 11.2 to 11.4)
abbrev pub IsTrivia : ℕ → List ℕ → Type 0
IsTrivia at = Reads trivia.next trivia.may_end (begin_trivia at)

-- an identifier, which is a name or a word (ECMA-262, 11.6)
abbrev pub IsIdentifier : List ℕ → Type 0
IsIdentifier = Reads name.next name.may_end name.Front

-- a number (ECMA-262, 11.8.3)
abbrev pub IsNumber : List ℕ → Type 0
IsNumber = ReadsBytes number.next number.may_end number_part.Front

-- from a quote to the same quote (ECMA-262, 11.8.4)
abbrev pub IsClosed : List ℕ → Type 0
IsClosed text = (is_quote (slice_index text 0) ≡ true) × ReadsBytes (quoted.next (slice_index text 0)) quoted.may_end quoted_part.Front text

-- the escapes of a string are right (ECMA-262, 11.8.4)
abbrev pub are_right : List ℕ → Bool
are_right text = quoted.is_plain (fold quoted.in_escape escape_part.Plain text)

-- a part of a template from a mark on, up to the template's end or to a substitution (ECMA-262, 11.8.6)
abbrev pub IsLast : ℕ → List ℕ → Type 0
IsLast mark = ReadsBytes (template.next mark) template.is_closed template_part.Front

abbrev pub IsBefore : ℕ → List ℕ → Type 0
IsBefore mark = ReadsBytes (template.next mark) template.is_opened template_part.Front

-- a regular expression (ECMA-262, 11.8.5)
abbrev pub IsRegex : List ℕ → Type 0
IsRegex = Reads regex.next regex.may_end regex_part.Front

-- what a token of the class is the longest of: a name and a word reach as far as an identifier, a string to its quote
abbrev pub Reaches : TokenClass → List ℕ → Type 0
Reaches class.Name = IsIdentifier
Reaches class.Word = IsIdentifier
Reaches class.Number = IsNumber
Reaches class.Str = IsClosed
Reaches class.TemplateWhole = IsLast 96
Reaches class.TemplateHead = IsBefore 96
Reaches class.TemplateMiddle = IsBefore 125
Reaches class.TemplateTail = IsLast 125
Reaches class.Regex = IsRegex
Reaches class.Punct = λ text. is_mark text ≡ true
Reaches class.End = λ _. ⊥

-- what is asked of a token besides, with what follows it: a name is no word, a word is in the table, behind a number
-- stands no digit and nothing that begins a name, escapes are right, and a `.` before a digit begins a number
abbrev pub IsRight : TokenClass → List ℕ → List ℕ → Type 0
IsRight class.Name text rest = is_word text ≡ false
IsRight class.Word text rest = is_word text ≡ true
IsRight class.Number text rest = begins (λ c. is_start c || is_digit c) (chars rest) ≡ false
IsRight class.Str text rest = are_right text ≡ true
IsRight class.Punct text rest = (bytes_eq (46 ∷ []) text && begins is_digit rest) ≡ false
IsRight _ text rest = Unit {0}

-- a token of the class with n bytes stands at the front of the text
pub record Stands (c : TokenClass) (text : List ℕ) (n : ℕ) : Type 0 where
  pub longest : Longest (Reaches c) text n
  pub right : IsRight c (take n text) (drop n text)

-- where no token begins: at `/*`, which doesn't close there, at `<!--`, and at `-->` where no token stands before it on its line
abbrev pub is_barred : Bool → List ℕ → Bool
is_barred fresh text = starts_with nat_eq text (codes "/*") || starts_with nat_eq text (codes "<!--") || (fresh && starts_with nat_eq text (codes "-->"))

-- the trivia has a line end
abbrev pub has_line_end : List ℕ → Bool
has_line_end text = list_any is_line_end (chars text)

-- behind the trivia no token stands before on its line
abbrev pub is_fresh : ℕ → List ℕ → Bool
is_fresh at text = at == 0 || has_line_end text

-- from p on stand a gap of trivia, as long as it can be, and then a token of the class with n bytes
pub record IsCut (p : Place) (gap : ℕ) (c : TokenClass) (n : ℕ) : Type 0 where
  pub trivia : Longest (IsTrivia p.at) p.left gap
  pub free : is_barred (is_fresh p.at (take gap p.left)) (drop gap p.left) ≡ false
  pub stands : Stands c (drop gap p.left) n

-- t is a next token at p, behind a gap of trivia, and q is the place after it
pub record Next (p : Place) (t : Token) (q : Place) : Type 0 where
  pub gap : ℕ
  pub cut : IsCut p gap t.class (length t.text)
  pub line : t.nl_before ≡ has_line_end (take gap p.left)
  pub start : t.start ≡ p.at + gap
  pub text : t.text ≡ take (length t.text) (drop gap p.left)
  pub after : q ≡ ahead p (gap + length t.text)

-- the tokens stand one after another from p to q
abbrev pub LexesTo : Place → List Token → Place → Type 0
LexesTo p [] q = p ≡ q
LexesTo p (t ∷ ts) q = (m : Place) × Next p t m × LexesTo m ts q

-- the text is trivia and the tokens in turn, and ends with trivia
abbrev pub Lexes : List ℕ → List Token → Type 0
Lexes text ts = (q : Place) × LexesTo (start_of text) ts q × IsTrivia q.at q.left
