-- What a part of a parser has to do with the pieces that it reads. No production is named here.
use Rattle.std.specs.Prelude.{◌≡◌, ℕ, ◌+◌, List, [], ◌∷◌, Result, Ok, Err, Bool, true, false}
use Rattle.js_tree.specs.Lexical.{IsTrivia, Next, LexesTo}
use Rattle.js_tree.specs.Lexing.{Longest, Place}
use Rattle.js_tree.specs.Pieces.{Piece, Tok, Must, Ahead, Onto, Holds, first, kind}
use Rattle.js_tree.specs.declared.token.Token.{Token}
use Rattle.js_tree.specs.declared.token_kind.TokenKind.{TokenKind}
use Rattle.js_tokens.specs.declared.fault.TokenFault.{TokenFault}
use Rattle.js_tokens.specs.declared.fault.TokenFault.TheVariants as fault

-- the pieces stand one after another from p to the end of the text, each as it must
abbrev pub Reads : Place → List Piece → Type 0
Reads p [] = IsTrivia p.at p.left
Reads p (Tok t test ∷ ps) = (m : Place) × Next p t m × (test (kind t) ≡ true) × Reads m ps
Reads p (Must b ∷ ps) = (b ≡ true) × Reads p ps
Reads p (Ahead c ∷ ps) = Holds c (first ps) × Reads p ps

-- what the pieces are read to, from p to m, whatever follows
abbrev pub Read : Place → Onto → Place → Type 0
Read p onto m = (rest : List Piece) → Reads m rest → Reads p (onto rest)

-- the answer is x, and then P holds, or memory ran out
abbrev pub Gives : {X : Type 0} → Result X TokenFault → X → Type 0 → Type 0
Gives (Ok y) x P = (y ≡ x) × P
Gives (Err fault.OutOfMemory) x P = Unit {0}
Gives (Err (fault.Unexpected at)) x P = ⊥

-- whatever could be read at p is what was read, to m
abbrev pub OnlyRead : {X : Type 0} → (X → Onto) → (X → Type 0) → (X → List Piece → Type 0) → Place → Place → Result X TokenFault → Type 0
OnlyRead {X} onto P Stops p m result =
    (x : X) (rest : List Piece) → Reads p (onto x rest) → P x → Stops x rest → Gives result x (Reads m rest)

-- nothing is asked
abbrev pub Any : (X : Type 0) → X → Type 0
Any X x = Unit {0}

-- nothing is asked of what follows
abbrev pub Anywhere : (X : Type 0) → X → List Piece → Type 0
Anywhere X x rest = Unit {0}

-- no token that passes the test stands next at m
abbrev pub Ends : (TokenKind → Bool) → Place → Type 0
Ends test m = (t : Token) (n : Place) → Next m t n → test (kind t) ≡ false

-- before the pieces no token that passes the test stands
abbrev pub Stops : (TokenKind → Bool) → List Piece → Type 0
Stops test rest = (m : Place) → Reads m rest → Ends test m

-- a token that passes the test stands next at m
abbrev pub Begins : (TokenKind → Bool) → Place → Type 0
Begins test m = (t : Token) × (n : Place) × Next m t n × (test (kind t) ≡ true)

-- the condition holds of each next token at p
abbrev pub AllHold : (TokenKind → Bool → Bool) → Place → Type 0
AllHold c p = (t : Token) (n : Place) → Next p t n → c (kind t) t.nl_before ≡ true

-- some tokens lead from p to m
abbrev pub Passes : Place → Place → Type 0
Passes p m = (ts : List Token) × LexesTo p ts m

-- the next token at p begins at the offset, or would begin there: it stands behind trivia as long as it can be
pub record IsNextStart (p : Place) (at : ℕ) : Type 0 where
  pub gap : ℕ
  pub trivia : Longest (IsTrivia p.at) p.left gap
  pub place : at ≡ p.at + gap

-- after some tokens from p the next one begins at the offset, or would begin there
pub record IsStop (p : Place) (at : ℕ) : Type 0 where
  pub tokens : List Token
  pub reached : Place
  pub lexes : LexesTo p tokens reached
  pub start : IsNextStart reached at

-- the fault is a refusal at such an offset, or want of memory
abbrev pub Refuses : Place → TokenFault → Type 0
Refuses p (fault.Unexpected at) = IsStop p at
Refuses p fault.OutOfMemory = Unit {0}

-- some tokens were passed, or the text is refused after some tokens
abbrev pub Moves : {X : Type 0} → Place → Place → Result X TokenFault → Type 0
Moves p m (Ok x) = Passes p m
Moves p m (Err e) = Refuses p e
