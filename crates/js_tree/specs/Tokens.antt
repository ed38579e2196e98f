-- The tokens in the line of a node, and what they are where the node is one of a text.
use Rattle.std.specs.Prelude.{ℕ, ◌<◌, ◌≤◌, ◌==◌, List, [], ◌∷◌, length, Some}
use Rattle.std.specs.List.{AllByRecursion, count_by}
use Rattle.js_tree.specs.declared.token.Token.{Token}
use Rattle.js_tree.specs.Line.{LineItem, AToken, ANode, line_of}
use Rattle.js_tree.specs.Parts.{Node, gathered}
use Rattle.js_tree.specs.Spells.{limit}

-- the tokens among items
abbrev pub tokens_among : List LineItem → List Token
tokens_among [] = []
tokens_among (AToken t ∷ is) = t ∷ tokens_among is
tokens_among (ANode n ∷ is) = tokens_among is

-- the tokens of a node that stand in none of its parts
abbrev pub own_tokens : Node → List Token
own_tokens n = tokens_among (line_of n)

-- these of a node and all its parts
abbrev pub tokens_in : Node → List Token
tokens_in n = gathered (λ m (u : Unit {0}). own_tokens m) (λ m u. Some u) n tt

-- a token of a text within the limit
pub record IsOfText (t : Token) : Type 0 where
  pub start : t.start < limit
  pub short : length t.text ≤ limit

-- the node is one of a tree that spells a text: its tokens are of the text, no two of them at one place
pub record IsInText (n : Node) : Type 0 where
  pub few : length (tokens_in n) ≤ limit
  pub each : AllByRecursion IsOfText (tokens_in n)
  pub once : (s : ℕ) → count_by (λ (t : Token). t.start == s) (tokens_in n) ≤ 1
