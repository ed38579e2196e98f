-- Templates (ECMA-262, 11.8.6). What matters here is ASCII, so that these read bytes.
use Rattle.std.specs.Prelude.{ℕ, ◌==◌, Bool, true, false, if◌then◌else◌}
use Rattle.js_tree.specs.declared.part.TemplatePart.{TemplatePart}
use Rattle.js_tree.specs.declared.part.TemplatePart.TheVariants as part

abbrev pub within : ℕ → TemplatePart
within c = if c == 96 then part.Closed else if c == 92 then part.Passing else if c == 36 then part.Dollar else part.Within

-- where a character leads in a part that begins with this mark: a template's own, or `}`
abbrev pub next : ℕ → TemplatePart → ℕ → TemplatePart
next mark part.Front c = if c == mark then part.Within else part.Broken
next mark part.Within c = within c
next mark part.Passing c = part.Within
next mark part.Dollar c = if c == 123 then part.Opened else within c
next mark part.Opened c = part.Broken
next mark part.Closed c = part.Broken
next mark part.Broken c = part.Broken

-- the last part of a template ends there
abbrev pub is_closed : TemplatePart → Bool
is_closed part.Closed = true
is_closed _ = false

-- a part before a substitution ends there
abbrev pub is_opened : TemplatePart → Bool
is_opened part.Opened = true
is_opened _ = false

-- a part ends there
abbrev pub may_end : TemplatePart → Bool
may_end part.Closed = true
may_end part.Opened = true
may_end _ = false
