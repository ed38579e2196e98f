-- How marks go on: the way from one mark of the table to a longer one.
use Rattle.std.specs.Prelude.{ℕ, ◌==◌, Bool, true, false, if◌then◌else◌, List, [], slice_index_or, codes}
use Rattle.js_tree.specs.Lexical.Mark.{marks}
use Rattle.js_tokens.specs.declared.mark.MarkPart.{MarkPart}
use Rattle.js_tokens.specs.declared.mark.MarkPart.TheVariants as part

abbrev pub bits : ℕ → MarkPart
bits c = if c == 38 then part.And else if c == 124 then part.Or else if c == 94 then part.Caret else part.Broken

abbrev pub signs : ℕ → MarkPart
signs c = if c == 43 then part.Plus else if c == 45 then part.Minus else if c == 42 then part.Star else if c == 47 then part.Slash else if c == 37 then part.Percent else bits c

abbrev pub orders : ℕ → MarkPart
orders c = if c == 60 then part.Less else if c == 62 then part.Greater else if c == 61 then part.Equal else if c == 33 then part.Bang else signs c

abbrev pub stops : ℕ → MarkPart
stops c = if c == 46 then part.Dot else if c == 59 then part.Done 8 else if c == 44 then part.Done 9 else if c == 126 then part.Done 33 else if c == 63 then part.Done 36 else if c == 58 then part.Done 37 else orders c

abbrev pub brackets : ℕ → MarkPart
brackets c = if c == 123 then part.Done 0 else if c == 125 then part.Done 1 else if c == 40 then part.Done 2 else if c == 41 then part.Done 3 else if c == 91 then part.Done 4 else if c == 93 then part.Done 5 else stops c

-- where a byte leads
abbrev pub next : MarkPart → ℕ → MarkPart
next part.Front c = brackets c
next part.Dot c = if c == 46 then part.Dots else part.Broken
next part.Dots c = if c == 46 then part.Done 7 else part.Broken
next part.Less c = if c == 60 then part.Left else if c == 61 then part.Done 12 else part.Broken
next part.Greater c = if c == 61 then part.Done 13 else if c == 62 then part.Right else part.Broken
next part.Left c = if c == 61 then part.Done 45 else part.Broken
next part.Right c = if c == 61 then part.Done 46 else if c == 62 then part.Unsigned else part.Broken
next part.Unsigned c = if c == 61 then part.Done 47 else part.Broken
next part.Equal c = if c == 61 then part.Equals else if c == 62 then part.Done 51 else part.Broken
next part.Equals c = if c == 61 then part.Done 16 else part.Broken
next part.Bang c = if c == 61 then part.Unequal else part.Broken
next part.Unequal c = if c == 61 then part.Done 17 else part.Broken
next part.Plus c = if c == 43 then part.Done 24 else if c == 61 then part.Done 39 else part.Broken
next part.Minus c = if c == 45 then part.Done 25 else if c == 61 then part.Done 40 else part.Broken
next part.Star c = if c == 42 then part.Stars else if c == 61 then part.Done 41 else part.Broken
next part.Stars c = if c == 61 then part.Done 44 else part.Broken
next part.Slash c = if c == 61 then part.Done 42 else part.Broken
next part.Percent c = if c == 61 then part.Done 43 else part.Broken
next part.And c = if c == 38 then part.Done 34 else if c == 61 then part.Done 48 else part.Broken
next part.Or c = if c == 61 then part.Done 49 else if c == 124 then part.Done 35 else part.Broken
next part.Caret c = if c == 61 then part.Done 50 else part.Broken
next (part.Done k) c = part.Broken
next part.Broken c = part.Broken

-- a mark may end there
abbrev pub may_end : MarkPart → Bool
may_end part.Front = false
may_end part.Dots = false
may_end part.Broken = false
may_end _ = true

-- no mark goes on there
abbrev pub is_done : MarkPart → Bool
is_done (part.Done k) = true
is_done _ = false

-- the place of the mark in the table
abbrev pub place : MarkPart → ℕ
place part.Front = 0
place part.Dot = 6
place part.Dots = 0
place part.Less = 10
place part.Greater = 11
place part.Left = 26
place part.Right = 27
place part.Unsigned = 28
place part.Equal = 38
place part.Equals = 14
place part.Bang = 32
place part.Unequal = 15
place part.Plus = 18
place part.Minus = 19
place part.Star = 20
place part.Stars = 23
place part.Slash = 21
place part.Percent = 22
place part.And = 29
place part.Or = 30
place part.Caret = 31
place (part.Done k) = k
place part.Broken = 0

-- the text that leads there
abbrev pub text_of : MarkPart → List ℕ
text_of part.Front = []
text_of part.Dot = codes "."
text_of part.Dots = codes ".."
text_of part.Less = codes "<"
text_of part.Greater = codes ">"
text_of part.Left = codes "<<"
text_of part.Right = codes ">>"
text_of part.Unsigned = codes ">>>"
text_of part.Equal = codes "="
text_of part.Equals = codes "=="
text_of part.Bang = codes "!"
text_of part.Unequal = codes "!="
text_of part.Plus = codes "+"
text_of part.Minus = codes "-"
text_of part.Star = codes "*"
text_of part.Stars = codes "**"
text_of part.Slash = codes "/"
text_of part.Percent = codes "%"
text_of part.And = codes "&"
text_of part.Or = codes "|"
text_of part.Caret = codes "^"
text_of (part.Done k) = slice_index_or marks k []
text_of part.Broken = []
