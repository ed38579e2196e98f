use Rattle.std.proofs.Common.{◌≡◌, [], refl, ap, sym, ◌∙◌}
use Rattle.js_tree.specs.declared.token.Token.{Token}
use Rattle.js_tree.specs.declared.tree.Expr.TheOpen.{Expr-F}
use Rattle.js_tree.specs.declared.tree.Function.{Function}
use Rattle.js_tree.specs.declared.tree.Expr.{out-Expr}
use Rattle.js_tree.specs.declared.tree.Expr.TheVariants.{outs-Name, outs-Fun}
use Rattle.js_tree.specs.Folds.{ExprLayer}
use Rattle.js_scopes.specs.Brackets.{listed}
use Rattle.js_scopes.specs.Functions.{own_name}
use Rattle.js_scopes.specs.Scopes.{tokens_in_expr}
use Rattle.js_scopes.proofs.Layers.{is-Name, is-Fun}
use Rattle.js_scopes.proofs.names.token_in_expr.Goals as goal

others : (y : ExprLayer) → ((t : Token) → y ≡ Expr-F.«Expr::Name» t → ⊥) → ((f : Function) → y ≡ Expr-F.«Expr::Fun» f → ⊥) → [] ≡ tokens_in_expr y
others (Expr-F.«Expr::Name» t) a b = absurd (a t refl)
others (Expr-F.«Expr::Fun» f) a b = absurd (b f refl)
others _ a b = refl

pub returns-in-Name : goal.returns-in-Name
returns-in-Name c = sym (ap tokens_in_expr (ap out-Expr c.in-Name.is ∙ outs-Name c.in-Name.token))

pub returns-in-Fun : goal.returns-in-Fun
returns-in-Fun c = ap listed c.own_name.ensures ∙ ap own_name c.get.ensures ∙ sym (ap tokens_in_expr (ap out-Expr c.in-Fun.is ∙ outs-Fun c.in-Fun.function))

pub returns-in_default : goal.returns-in_default
returns-in_default c = others (out-Expr c.args.value.now) (λ t e. c.in_default.not-Name t (is-Name c.args.value.now t e)) (λ f e. c.in_default.not-Fun f (is-Fun c.args.value.now f e))
