use Rattle.std.proofs.Common.{◌≡◌, [], refl, ap, sym, ◌∙◌}
use Rattle.js_tree.specs.declared.tree.Expr.TheOpen.{Stmt-F}
use Rattle.js_tree.specs.declared.tree.Function.{Function}
use Rattle.js_tree.specs.declared.tree.Stmt.{out-Stmt}
use Rattle.js_tree.specs.declared.tree.Stmt.TheVariants.{outs-Fun}
use Rattle.js_tree.specs.Folds.{StmtLayer}
use Rattle.js_scopes.specs.Brackets.{listed}
use Rattle.js_scopes.specs.Functions.{own_name}
use Rattle.js_scopes.specs.Scopes.{declared_by_stmt}
use Rattle.js_scopes.proofs.Layers.{is-Declared}
use Rattle.js_scopes.proofs.scope.declared_by_stmt.Goals as goal

others : (y : StmtLayer) → ((f : Function) → y ≡ Stmt-F.«Stmt::Fun» f → ⊥) → [] ≡ declared_by_stmt y
others (Stmt-F.«Stmt::Fun» f) never = absurd (never f refl)
others _ never = refl

pub returns-in-Fun : goal.returns-in-Fun
returns-in-Fun c = ap listed c.own_name.ensures ∙ ap own_name c.get.ensures ∙ sym (ap declared_by_stmt (ap out-Stmt c.in-Fun.is ∙ outs-Fun c.in-Fun.function))

pub returns-in_default : goal.returns-in_default
returns-in_default c = others (out-Stmt c.args.statement.now) (λ f e. c.in_default.not-Fun f (is-Declared c.args.statement.now f e))
