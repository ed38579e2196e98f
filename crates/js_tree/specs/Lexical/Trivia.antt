-- What stands between tokens: white space, line ends and comments (ECMA-262, 11.2 to 11.4).
use Rattle.std.specs.Prelude.{ℕ, ◌==◌, ◌||◌, Bool, true, false, if◌then◌else◌}
use Rattle.js_tree.specs.Lexical.Character.{is_space, is_line_end}
use Rattle.js_tree.specs.declared.part.TriviaPart.{TriviaPart}
use Rattle.js_tree.specs.declared.part.TriviaPart.TheVariants as part

abbrev pub between : ℕ → TriviaPart
between c = if is_space c || is_line_end c then part.Between else if c == 47 then part.Slash else part.Broken

-- where a character leads
abbrev pub next : TriviaPart → ℕ → TriviaPart
next part.Front c = if c == 35 then part.Hash else between c
next part.Hash c = if c == 33 then part.Line else part.Broken
next part.Between c = between c
next part.Slash c = if c == 47 then part.Line else if c == 42 then part.Block else part.Broken
next part.Line c = if is_line_end c then part.Between else part.Line
next part.Block c = if c == 42 then part.Star else part.Block
next part.Star c = if c == 47 then part.Between else if c == 42 then part.Star else part.Block
next part.Broken c = part.Broken

-- trivia may end there: a comment `/*` ends with `*/`
abbrev pub may_end : TriviaPart → Bool
may_end part.Front = true
may_end part.Between = true
may_end part.Line = true
may_end _ = false
