-- How the table of words lies by first letters.
use Rattle.std.specs.Prelude.{◌≡◌, ℕ, ◌≤◌, ◌==◌, Bool, false, List, [], ◌∷◌, take, drop}
use Rattle.std.specs.List.{list_any}
use Rattle.js_tree.specs.Lexing.{words}

-- the number of words that begin with a letter before each of `a` to `z`, and of all words
abbrev pub firsts : List ℕ
firsts = 0 ∷ 0 ∷ 1 ∷ 6 ∷ 10 ∷ 14 ∷ 18 ∷ 18 ∷ 18 ∷ 22 ∷ 22 ∷ 22 ∷ 23 ∷ 23 ∷ 25 ∷ 25 ∷ 25 ∷ 25 ∷ 26 ∷ 28 ∷ 33 ∷ 33 ∷ 35 ∷ 37 ∷ 37 ∷ 37 ∷ 37 ∷ []

-- the word begins with the letter
abbrev pub head_is : ℕ → List ℕ → Bool
head_is c [] = false
head_is c (h ∷ t) = h == c

-- the words that begin with the letter stand between these two places of the table
pub record IsSpan (c from to : ℕ) : Type 0 where
  pub before : list_any (head_is c) (take from words) ≡ false
  pub behind : list_any (head_is c) (drop to words) ≡ false
  pub order : from ≤ to
  pub end : to ≤ 37
