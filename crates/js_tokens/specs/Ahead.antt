-- What is told of the token that stands next, whatever the goal.
use Rattle.std.specs.Prelude.{◌≡◌, ℕ, ◌+◌, ◌-◌, Bool, true, false, length, drop, ◌⊎◌}
use Rattle.js_tree.specs.Lexical.{Next}
use Rattle.js_tree.specs.Lexing.{Place}
use Rattle.js_tree.specs.Pieces.{kind}
use Rattle.js_tree.specs.declared.token.Token.{Token}
use Rattle.js_tree.specs.declared.token.TokenClass.TheVariants as class
use Rattle.js_tree.specs.declared.token_kind.TokenKind.{TokenKind}
use Rattle.js_tree.specs.declared.token_kind.TokenKind.TheVariants as kinds
use Rattle.js_tokens.specs.Pieces.{IsNextStart}
use Rattle.js_tokens.specs.Places.{IsRaw}
use Rattle.js_tokens.specs.declared.fault.LexFault.{LexFault}
use Rattle.js_tokens.specs.declared.fault.LexFault.TheVariants as fault
use Rattle.js_tokens.specs.declared.goal.Goal.{Goal}
use Rattle.js_tokens.specs.declared.goal.Goal.TheVariants as goal
use Rattle.js_tokens.specs.declared.lexer.Ahead.{Ahead}
use Rattle.js_tokens.specs.declared.reader.Held.{Held}

-- the kinds that the goal reads; where an operator may stand, all but those of the other reading of `/` and `}`
abbrev pub reads : Goal → TokenKind → Bool
reads goal.Operator kinds.Regex = false
reads goal.Operator kinds.TemplateMiddle = false
reads goal.Operator kinds.TemplateTail = false
reads goal.Operator _ = true
reads goal.Operand kinds.Slash = false
reads goal.Operand kinds.SlashAssign = false
reads goal.Operand kinds.TemplateMiddle = false
reads goal.Operand kinds.TemplateTail = false
reads goal.Operand _ = true
reads goal.Template kinds.RightBrace = false
reads goal.Template kinds.Regex = false
reads goal.Template _ = true

-- the first is the other reading of a place where the second may stand
abbrev pub IsTwin : TokenKind → TokenKind → Type 0
IsTwin kinds.Regex k = (k ≡ kinds.Slash) ⊎ (k ≡ kinds.SlashAssign)
IsTwin kinds.TemplateMiddle k = k ≡ kinds.RightBrace
IsTwin kinds.TemplateTail k = k ≡ kinds.RightBrace
IsTwin _ k = ⊥

-- the test answers alike for both readings of a place
pub record Blind (test : TokenKind → Bool) : Type 0 where
  pub slash : test kinds.Regex ≡ test kinds.Slash
  pub slash_assign : test kinds.Regex ≡ test kinds.SlashAssign
  pub middle : test kinds.TemplateMiddle ≡ test kinds.RightBrace
  pub tail : test kinds.TemplateTail ≡ test kinds.RightBrace

-- the offset of a fault
abbrev pub offset_of : LexFault → ℕ
offset_of (fault.Char at) = at
offset_of (fault.Unclosed at what) = at

-- k is the kind of the next token at p as the goal Operator reads it, and End where there is none
pub record IsNextKind (p : Place) (k : TokenKind) : Type 0 where
  pub some : (k ≡ kinds.End → ⊥) → (t : Token) × (n : Place) × Next p t n × (kind t ≡ k)
  pub all : (t : Token) (n : Place) → Next p t n → (kind t ≡ k) ⊎ IsTwin (kind t) k

-- whether a line end stands before the next token at p
abbrev pub IsNextLine : Place → Bool → Type 0
IsNextLine p nl = (t : Token) (n : Place) → Next p t n → t.nl_before ≡ nl

-- the next token of the goal at p and the text behind it
pub record IsNextFor (g : Goal) (p : Place) (next : Ahead) : Type 0 where
  pub raw : IsRaw g p next.raw
  pub some : next.raw.class ≡ class.End → ⊥
  pub left : next.left.now ≡ drop (next.raw.start - p.at + length next.raw.text.now) p.left

-- no token of the goal stands next at p
abbrev pub NoneFor : Goal → Place → Type 0
NoneFor g p = (t : Token) (n : Place) → Next p t n → reads g (kind t) ≡ true → ⊥

-- what is held of the next token at p
pub record IsHeld (p : Place) (h : Held) : Type 0 where
  pub kind : IsNextKind p h.kind
  pub line : IsNextLine p h.next.raw.nl_before
  pub start : IsNextStart p h.next.raw.start
  pub next : (h.kind ≡ kinds.End → ⊥) → IsNextFor goal.Operator p h.next
