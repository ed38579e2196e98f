-- Which texts have a kind.
use Rattle.std.specs.Prelude.{◌≡◌, ℕ, true, List}
use Rattle.js_tree.specs.Lexical.Mark.{is_mark}
use Rattle.js_tree.specs.declared.token.TokenClass.{TokenClass}
use Rattle.js_tree.specs.declared.token.TokenClass.TheVariants as class

-- a token of the class may have the text: a mark is in the table of marks
abbrev pub MayBe : TokenClass → List ℕ → Type 0
MayBe class.Punct text = is_mark text ≡ true
MayBe _ text = Unit {0}
