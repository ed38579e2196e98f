-- The trees of the text of a module.
use Rattle.std.specs.Prelude.{◌≡◌, ℕ, Bool, true, false, List, []}
use Rattle.js_tree.specs.declared.tree.Tree.{Tree}
use Rattle.js_tree.specs.Spells.{Spells}

-- the tree is the only one that spells the text
pub record IsOnlyTree (text : List ℕ) (tree : Tree) : Type 0 where
  pub spelled : Spells text tree
  pub only : (other : Tree) → Spells text other → other ≡ tree

-- no tree spells the text
abbrev pub IsBad : List ℕ → Type 0
IsBad text = (tree : Tree) → Spells text tree → ⊥

-- the tree without statements
abbrev pub empty_tree : Tree
empty_tree = record { body = [] }

-- the tree that is worked with, and whether the module is skipped: the only one of the text, or the empty one where the text has none, which comes where such modules are skipped alone
pub data IsTheTree (skip : Bool) (text : List ℕ) (tree : Tree) (skipped : Bool) : Type 0 where
  only : skipped ≡ false → IsOnlyTree text tree → IsTheTree skip text tree skipped
  none : skipped ≡ true → skip ≡ true → IsBad text → tree ≡ empty_tree → IsTheTree skip text tree skipped
