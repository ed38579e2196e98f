-- The functions of a module whose `arguments` are used (ECMA-262, 9.4.4).
use Rattle.std.specs.Prelude.{ℕ, List, [], ◌∷◌, Some}
use Rattle.js_tree.specs.declared.token.Token.{Token}
use Rattle.js_tree.specs.declared.tree.Expr.{out-Expr}
use Rattle.js_tree.specs.declared.tree.Expr.TheOpen.{Expr-F, Pattern-F}
use Rattle.js_tree.specs.declared.tree.Pattern.{out-Pattern}
use Rattle.js_tree.specs.Folds.{ExprLayer, PatternLayer}
use Rattle.js_tree.specs.Parts.{Node, AnExpr, APattern, gathered}
use Rattle.js_scopes.specs.declared.binding.Binding.{Binding}
use Rattle.js_scopes.specs.declared.binding.Binding.TheVariants as binding
use Rattle.js_scopes.specs.Calls.{Known}

-- the number of the function whose arguments are meant
abbrev pub arguments_meant : Binding → List ℕ
arguments_meant (binding.Arguments f) = f ∷ []
arguments_meant _ = []

abbrev pub arguments_of_name : Known → Token → List ℕ
arguments_of_name known t = arguments_meant (known.binding t.start)

-- Name: the function whose arguments it means
abbrev pub arguments_of_expr : Known → ExprLayer → List ℕ
arguments_of_expr known (Expr-F.«Expr::Name» t) = arguments_of_name known t
arguments_of_expr known _ = []

abbrev pub arguments_of_pattern : Known → PatternLayer → List ℕ
arguments_of_pattern known (Pattern-F.«Pattern::Name» t) = arguments_of_name known t
arguments_of_pattern known _ = []

abbrev pub own_arguments : Known → Node → Unit {0} → List ℕ
own_arguments known (AnExpr x) u = arguments_of_expr known (out-Expr x)
own_arguments known (APattern x) u = arguments_of_pattern known (out-Pattern x)
own_arguments known _ u = []

-- the functions whose arguments are used in a node
abbrev pub arguments_in : Known → Node → List ℕ
arguments_in known n = gathered (own_arguments known) (λ m u. Some u) n tt
