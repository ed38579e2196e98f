-- The expressions of a module that have a number.
use Rattle.std.specs.Prelude.{ℕ, ◌+◌, ◌==◌, List, [], ◌∷◌, ◌++◌, Some, if◌then◌else◌}
use Rattle.js_tree.specs.declared.lists.Tail.{Tail}
use Rattle.js_tree.specs.declared.lists.Tail.TheVariants as tail
use Rattle.js_tree.specs.declared.tree.Expr.{Expr, out-Expr}
use Rattle.js_tree.specs.declared.tree.Expr.TheOpen.{Expr-F}
use Rattle.js_tree.specs.declared.tree.Tree.{Tree}
use Rattle.js_tree.specs.Folds.{ExprLayer}
use Rattle.js_tree.specs.Parts.{Node, AnExpr, ABody, gathered}
use Rattle.js_scopes.specs.Brackets.{listed}
use Rattle.js_scopes.specs.Calls.{last_member}
use Rattle.flow_rules.specs.Values.{OR, choice_mark, is_numbered, operator_mark}

-- the `(` of a call that has a number, behind these tails
abbrev pub numbered_call : List (Tail Expr) → Tail Expr → List ℕ
numbered_call before (tail.Call a) = if is_numbered (last_member before) then a.open.start ∷ [] else []
numbered_call before _ = []

-- the same of all tails, the last first
abbrev pub numbered_calls : List (Tail Expr) → List (Tail Expr) → List ℕ
numbered_calls before [] = []
numbered_calls before (t ∷ tails) = numbered_calls (before ++ t ∷ []) tails ++ numbered_call before t

-- Chain: its calls, outer before inner. Binary with `||`, Cond: itself
abbrev pub numbered_in_expr : ExprLayer → List ℕ
numbered_in_expr (Expr-F.Chain head tails) = numbered_calls [] tails
numbered_in_expr (Expr-F.Binary level first others) = if level == OR then listed (operator_mark others) else []
numbered_in_expr (Expr-F.Cond arms last) = listed (choice_mark arms)
numbered_in_expr _ = []

abbrev pub own_numbered : Node → Unit {0} → List ℕ
own_numbered (AnExpr x) u = numbered_in_expr (out-Expr x)
own_numbered _ u = []

-- the numbered expressions of a tree by the offsets of tokens of their own, in the order of the text, outer before inner
abbrev pub numbered_of : Tree → List ℕ
numbered_of tree = gathered own_numbered (λ n u. Some u) (ABody tree.body) tt

-- the place of the first that is the number, or how many there are
abbrev pub place_in : List ℕ → ℕ → ℕ
place_in [] offset = 0
place_in (x ∷ xs) offset = if x == offset then 0 else place_in xs offset + 1
