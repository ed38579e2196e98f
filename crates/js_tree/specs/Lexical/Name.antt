-- Names and words (ECMA-262, 11.6).
use Rattle.std.specs.Prelude.{ℕ, Bool, true, false, if◌then◌else◌}
use Rattle.js_tree.specs.Lexical.Character.{is_start, is_part}

-- where a reader of a name stands: at its front, in it or past it
pub data Part : Type 0 where
  Front : Part
  Within : Part
  Broken : Part

-- where a character leads
abbrev pub next : Part → ℕ → Part
next Front c = if is_start c then Within else Broken
next Within c = if is_part c then Within else Broken
next Broken c = Broken

abbrev pub may_end : Part → Bool
may_end Within = true
may_end _ = false
