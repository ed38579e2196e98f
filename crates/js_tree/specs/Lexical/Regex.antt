-- Regular expression literals (ECMA-262, 11.8.5).
use Rattle.std.specs.Prelude.{ℕ, ◌==◌, ◌||◌, Bool, true, false, if◌then◌else◌}
use Rattle.js_tree.specs.Lexical.Character.{is_line_end, is_part}
use Rattle.js_tree.specs.declared.part.RegexPart.{RegexPart}
use Rattle.js_tree.specs.declared.part.RegexPart.TheVariants as part

abbrev pub body : ℕ → RegexPart
body c = if is_line_end c then part.Broken else if c == 47 then part.Flags else if c == 92 then part.Passing else if c == 91 then part.Class else part.Body

-- where a character leads
abbrev pub next : RegexPart → ℕ → RegexPart
next part.Front c = if c == 47 then part.First else part.Broken
next part.First c = if c == 42 || c == 47 then part.Broken else body c
next part.Body c = body c
next part.Passing c = if is_line_end c then part.Broken else part.Body
next part.Class c = if is_line_end c then part.Broken else if c == 93 then part.Body else if c == 92 then part.PassingInClass else part.Class
next part.PassingInClass c = if is_line_end c then part.Broken else part.Class
next part.Flags c = if is_part c then part.Flags else part.Broken
next part.Broken c = part.Broken

abbrev pub may_end : RegexPart → Bool
may_end part.Flags = true
may_end _ = false
