-- The tree that is worked with.
use Rattle.std.proofs.Common.{◌≡◌, ◌↔◌, ℕ, Bool, true, false, List, [], refl, ap, sym, subst, ◌∙◌, arith, true≢false}
use Rattle.std.specs.List.{fold}
use Rattle.std.proofs.lemmas.Str.{IsUtf8-nil, chars-nil}
use Rattle.js_tree.specs.Lexical.{begin_trivia}
use Rattle.js_tree.specs.Lexical.Trivia as trivia
use Rattle.js_tree.specs.Lexing.{start_of}
use Rattle.js_tree.specs.Spells.{Spells, SpellsSome}
use Rattle.js_tree.specs.declared.tree.Tree.{Tree}
use Rattle.jam_base.specs.Files.{Files}
use Rattle.jam_app.specs.declared.loading.loaded.Loaded.{Loaded}
use Rattle.jam_app.specs.Loading.{IsKept, module_of}
use Rattle.jam_app.specs.Rounds as rounds
use Rattle.jam_app.specs.Rounds.{IsModuleOf, IsTreeOf, text_at}
use Rattle.jam_app.specs.Texts.{IsBad, IsTheTree, empty_tree, only, none}

-- it is the tree of the text
pub tree_is : (skip : Bool) (text : List ℕ) (tree : Tree) (skipped : Bool) → IsTheTree skip text tree skipped → IsTreeOf text tree
tree_is skip text tree skipped (only e one) = rounds.spelled one.spelled
tree_is skip text tree skipped (none e s bad empty) = rounds.bad bad empty

-- and the only one
pub one_tree : (skip : Bool) (text : List ℕ) (tree : Tree) (skipped : Bool) (other : Tree) → IsTheTree skip text tree skipped → IsTreeOf text other → other ≡ tree
one_tree skip text tree skipped other (only e one) (rounds.spelled s) = one.only other s
one_tree skip text tree skipped other (only e one) (rounds.bad bad empty) = absurd (bad tree one.spelled)
one_tree skip text tree skipped other (none e s bad empty) (rounds.spelled s2) = absurd (bad other s2)
one_tree skip text tree skipped other (none e s bad empty) (rounds.bad bad2 empty2) = empty2 ∙ sym empty

-- a module is skipped exactly where no tree spells its text
pub skipped_iff : (skip : Bool) (text : List ℕ) (tree : Tree) (skipped : Bool) → IsTheTree skip text tree skipped → (skipped ≡ true) ↔ IsBad text
skipped_iff skip text tree skipped (only e one) = (λ t. absurd (true≢false (sym t ∙ e)), λ bad. absurd (bad tree one.spelled))
skipped_iff skip text tree skipped (none e s bad empty) = (λ t. bad, λ b. e)

-- where none is skipped there is a tree
pub not_bad : (skip : Bool) (text : List ℕ) (tree : Tree) (skipped : Bool) → IsTheTree skip text tree skipped → skip ≡ false → IsBad text → ⊥
not_bad skip text tree skipped (only e one) unskipped bad = bad tree one.spelled
not_bad skip text tree skipped (none e s b empty) unskipped bad = true≢false (sym s ∙ unskipped)

-- the empty text has the empty tree
empty_spells : Spells [] empty_tree
empty_spells = record {
  fits = omega arith;
  well = record { fit = tt; depth = omega arith };
  lexes = (start_of [], refl, record { utf8 = IsUtf8-nil; ends = ap (λ cs. trivia.may_end (fold trivia.next (begin_trivia 0) cs)) chars-nil });
}

-- it spells some text
pub spells_some : (skip : Bool) (text : List ℕ) (tree : Tree) (skipped : Bool) → IsTheTree skip text tree skipped → SpellsSome tree
spells_some skip text tree skipped (only e one) = (text, one.spelled)
spells_some skip text tree skipped (none e s bad empty) = ([], subst (Spells []) (sym empty) empty_spells)

-- what is kept of a module is the module of its file
pub module_is : (m : Files) (skip : Bool) (l : Loaded) → l.text ≡ text_at m l.path → IsKept skip m l → IsModuleOf m (module_of l)
module_is m skip l text kept = record {
  text = text;
  tree = tree_is skip l.text l.tree l.skipped kept.tree;
  skipped = skipped_iff skip l.text l.tree l.skipped kept.tree;
}
