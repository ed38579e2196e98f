-- Which mark was found.
use Rattle.std.specs.Prelude.{◌≡◌, ℕ, ◌<◌, List, [], take, slice_index_or}
use Rattle.js_tree.specs.Lexical.Mark.{marks}
use Rattle.js_tokens.specs.declared.reach.MarkEnd.{MarkEnd}

-- where a mark was found, it is the one of its place in the table
abbrev pub IsPlaced : List ℕ → MarkEnd → Type 0
IsPlaced text m = 0 < m.len → take m.len text ≡ slice_index_or marks m.place []
