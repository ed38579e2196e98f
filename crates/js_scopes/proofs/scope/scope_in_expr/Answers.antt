use Rattle.std.proofs.Common.{◌≡◌, refl, ap, sym, ◌∙◌, Some, None}
use Rattle.js_tree.specs.declared.tree.Expr.TheOpen.{Expr-F}
use Rattle.js_tree.specs.declared.tree.Function.{Function}
use Rattle.js_tree.specs.declared.tree.Expr.{out-Expr}
use Rattle.js_tree.specs.declared.tree.Expr.TheVariants.{outs-Fun}
use Rattle.js_tree.specs.Folds.{ExprLayer}
use Rattle.js_scopes.specs.Functions.{own_name}
use Rattle.js_scopes.specs.Scopes.{scope_in_expr}
use Rattle.js_scopes.proofs.Layers.{is-Fun}
use Rattle.js_scopes.proofs.scope.scope_in_expr.Goals as goal

others : (y : ExprLayer) → ((f : Function) → y ≡ Expr-F.«Expr::Fun» f → ⊥) → None ≡ scope_in_expr y
others (Expr-F.«Expr::Fun» f) never = absurd (never f refl)
others _ never = refl

pub returns-in_ok-scope-in-Fun : goal.returns-in_ok-scope-in-Fun
returns-in_ok-scope-in-Fun c = ap Some (c.in_ok-scope-in-Fun.ensures {u = tt} ∙ ap own_name c.get.ensures) ∙ sym (ap scope_in_expr (ap out-Expr c.in-Fun.is ∙ outs-Fun c.in-Fun.function))

pub returns-in_default : goal.returns-in_default
returns-in_default c = others (out-Expr c.args.value.now) (λ f e. c.in_default.not-Fun f (is-Fun c.args.value.now f e))
