-- What a spelling is made of, over the whole lexical grammar.
use Rattle.std.specs.Prelude.{◌≡◌, List, [], ◌∷◌, Option, Some, None, Bool, true}
use Rattle.js_tree.specs.TokenKinds.{kind_of}
use Rattle.js_tree.specs.declared.token.Token.{Token}
use Rattle.js_tree.specs.declared.token_kind.TokenKind.{TokenKind}

-- the kind of a token
abbrev pub kind : Token → TokenKind
kind t = kind_of t.class t.text

-- a piece of a spelling: a token and which kinds its place takes, what must hold of the node there, or what must hold of the
-- kind and the line of the token that follows
pub data Piece : Type 0 where
  Tok : Token → (TokenKind → Bool) → Piece
  Must : Bool → Piece
  Ahead : (TokenKind → Bool → Bool) → Piece

-- some pieces, and then the given ones
abbrev pub Onto : Type 0
Onto = List Piece → List Piece

-- a token of one of the kinds
abbrev pub one : (TokenKind → Bool) → Token → Onto
one test t rest = Tok t test ∷ rest

-- the tokens of pieces
abbrev pub tokens : List Piece → List Token
tokens [] = []
tokens (Tok t test ∷ ps) = t ∷ tokens ps
tokens (Must b ∷ ps) = tokens ps
tokens (Ahead c ∷ ps) = tokens ps

-- the first token of pieces
abbrev pub first : List Piece → Option Token
first [] = None
first (Tok t test ∷ ps) = Some t
first (Must b ∷ ps) = first ps
first (Ahead c ∷ ps) = first ps

-- the condition holds of the token, where there is one
abbrev pub Holds : (TokenKind → Bool → Bool) → Option Token → Type 0
Holds c None = Unit {0}
Holds c (Some t) = c (kind t) t.nl_before ≡ true

-- each token is of a kind that its place takes, and each condition holds
abbrev pub AreFit : List Piece → Type 0
AreFit [] = Unit {0}
AreFit (Tok t test ∷ ps) = (test (kind t) ≡ true) × AreFit ps
AreFit (Must b ∷ ps) = (b ≡ true) × AreFit ps
AreFit (Ahead c ∷ ps) = Holds c (first ps) × AreFit ps
