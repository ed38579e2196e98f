-- What a reader tells of the next token at a place.
use Rattle.std.specs.Prelude.{◌≡◌, ℕ, ◌+◌, ◌⊎◌, List, [], length, take, drop, Result, Ok, Err}
use Rattle.js_tree.specs.Lexing.{Longest, Place, ahead}
use Rattle.js_tree.specs.Lexical.{IsTrivia, has_line_end, is_fresh, Next}
use Rattle.js_tree.specs.declared.token.Token.{Token}
use Rattle.js_tree.specs.declared.token.TokenClass.{TokenClass}
use Rattle.js_tree.specs.declared.token.TokenClass.TheVariants as class
use Rattle.js_tokens.specs.Fronts.{StandsFor, Opens, IsFoundFor}
use Rattle.js_tokens.specs.declared.cut.Cut.{Cut}
use Rattle.js_tokens.specs.declared.fault.LexFault.{LexFault}
use Rattle.js_tokens.specs.declared.fault.LexFault.TheVariants as fault
use Rattle.js_tokens.specs.declared.fault.TakeFault.{TakeFault}
use Rattle.js_tokens.specs.declared.fault.TakeFault.TheVariants as take_fault
use Rattle.js_tokens.specs.declared.fault.Unclosed.{Unclosed}
use Rattle.js_tokens.specs.declared.goal.Goal.{Goal}
use Rattle.js_tokens.specs.declared.lexer.Raw.{Raw}

-- what stands behind a gap of trivia
abbrev pub behind : Place → ℕ → List ℕ
behind p gap = drop gap p.left

-- behind the gap, which is as long as trivia can be, stands a token of the goal, of the class and with n bytes
pub record IsCutFor (g : Goal) (p : Place) (gap : ℕ) (c : TokenClass) (n : ℕ) : Type 0 where
  pub trivia : Longest (IsTrivia p.at) p.left gap
  pub stands : StandsFor g (is_fresh p.at (take gap p.left)) c (behind p gap) n

-- behind the gap the text ends
pub record IsEnd (p : Place) (gap : ℕ) (c : TokenClass) (n : ℕ) : Type 0 where
  pub trivia : Longest (IsTrivia p.at) p.left gap
  pub class : c ≡ class.End
  pub size : n ≡ 0
  pub ends : behind p gap ≡ []

-- the next token of the goal at p, and at the end of the text one of the class End without bytes
pub record IsRaw (g : Goal) (p : Place) (r : Raw) : Type 0 where
  pub gap : ℕ
  pub here : IsCutFor g p gap r.class (length r.text.now) ⊎ IsEnd p gap r.class (length r.text.now)
  pub start : r.start ≡ p.at + gap
  pub line : r.nl_before ≡ has_line_end (take gap p.left)
  pub text : r.text.now ≡ take (length r.text.now) (behind p gap)

-- it is the token that was cut
pub record IsOfCut (p : Place) (gap : ℕ) (c : TokenClass) (n : ℕ) (r : Raw) : Type 0 where
  pub class : r.class ≡ c
  pub start : r.start ≡ p.at + gap
  pub size : length r.text.now ≡ n

-- at the offset, behind trivia, no token of the goal begins
pub record NoToken (g : Goal) (p : Place) (at : ℕ) : Type 0 where
  pub gap : ℕ
  pub trivia : Longest (IsTrivia p.at) p.left gap
  pub place : at ≡ p.at + gap
  pub none : (c : TokenClass) (n : ℕ) → StandsFor g (is_fresh p.at (take gap p.left)) c (behind p gap) n → ⊥

-- why there is no next token at p
abbrev pub IsFault : Goal → Place → LexFault → Type 0
IsFault g p (fault.Char at) = (none : NoToken g p at) × (behind p none.gap ≡ [] → ⊥) × ((what : Unclosed) → Opens g what (behind p none.gap) → ⊥)
IsFault g p (fault.Unclosed at what) = (none : NoToken g p at) × Opens g what (behind p none.gap)

-- what was found behind the trivia of a place
pub record IsCutAt (g : Goal) (p : Place) (r : Cut) : Type 0 where
  pub trivia : Longest (IsTrivia p.at) p.left r.gap
  pub line : r.nl_before ≡ has_line_end (take r.gap p.left)
  pub found : IsFoundFor g (is_fresh p.at (take r.gap p.left)) (behind p r.gap) r.found

-- the token was taken at p, and q is the place after it; at the end of the text it is one of the class End without bytes
pub record IsTaken (g : Goal) (p : Place) (t : Token) (q : Place) : Type 0 where
  pub gap : ℕ
  pub here : IsCutFor g p gap t.class (length t.text) ⊎ IsEnd p gap t.class (length t.text)
  pub start : t.start ≡ p.at + gap
  pub line : t.nl_before ≡ has_line_end (take gap p.left)
  pub text : t.text ≡ take (length t.text) (behind p gap)
  pub after : q ≡ ahead p (gap + length t.text)

-- it is the next token by the lexical grammar, unless the text ends
abbrev pub IsNextUnlessEnd : Place → Token → Place → Type 0
IsNextUnlessEnd p t q = (t.class ≡ class.End → ⊥) → Next p t q

-- no token stands next, or a growth found no memory
abbrev pub IsTakeFault : Goal → Place → TakeFault → Type 0
IsTakeFault g p (take_fault.Lex e) = IsFault g p e
IsTakeFault g p take_fault.OutOfMemory = Unit {0}

-- the token that was cut is taken, or a growth found no memory
abbrev pub TakesCut : Place → ℕ → TokenClass → ℕ → Result Token TakeFault → Type 0
TakesCut p gap c n (Ok t) = (t.class ≡ c) × (t.start ≡ p.at + gap) × (length t.text ≡ n)
TakesCut p gap c n (Err take_fault.OutOfMemory) = Unit {0}
TakesCut p gap c n (Err (take_fault.Lex e)) = ⊥
