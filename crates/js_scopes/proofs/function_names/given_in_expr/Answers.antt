use Rattle.std.proofs.Common.{◌≡◌, Option, None, refl, ap, sym, ◌∙◌}
use Rattle.std.specs.Option.{option_map}
use Rattle.js_tree.specs.declared.token.Token.{Token}
use Rattle.js_tree.specs.declared.tree.Expr.{Expr, out-Expr}
use Rattle.js_tree.specs.declared.tree.Expr.TheOpen.{Expr-F}
use Rattle.js_tree.specs.declared.tree.Expr.TheVariants.{outs-Assign, outs-Fun}
use Rattle.js_tree.specs.declared.tree.Function.{Function}
use Rattle.js_tree.specs.declared.tree.Pattern.{Pattern}
use Rattle.js_tree.specs.Folds.{ExprLayer}
use Rattle.js_scopes.specs.Functions.{assigned_token, given_in_expr, gives}
use Rattle.js_scopes.proofs.Layers.{is-Assign, is-Fun}
use Rattle.js_scopes.proofs.function_names.given_in_expr.Goals as goal

others : (y : ExprLayer) (given : Option Token) → ((t : Pattern) (o : Token) (v : Expr) → y ≡ Expr-F.Assign t o v → ⊥) → ((f : Function) → y ≡ Expr-F.«Expr::Fun» f → ⊥) → None ≡ given_in_expr y given
others (Expr-F.Assign t o v) given a b = absurd (a t o v refl)
others (Expr-F.«Expr::Fun» f) given a b = absurd (b f refl)
others _ given a b = refl

pub returns-in-Assign : goal.returns-in-Assign
returns-in-Assign c =
    let given = option_map (λ t. t.now) c.args.given in
    c.assigned_token.ensures ∙ ap (λ t. assigned_token c.in-Assign.op (gives t)) c.get.ensures
    ∙ sym (ap (λ y. given_in_expr y given) (ap out-Expr c.in-Assign.is ∙ outs-Assign c.in-Assign.target c.in-Assign.op c.in-Assign.value))

pub returns-in-Fun : goal.returns-in-Fun
returns-in-Fun c = sym (ap (λ y. given_in_expr y (option_map (λ t. t.now) c.args.given)) (ap out-Expr c.in-Fun.is ∙ outs-Fun c.in-Fun.function))

pub returns-in_default : goal.returns-in_default
returns-in_default c =
    others (out-Expr c.args.value.now) (option_map (λ t. t.now) c.args.given) (λ t o v e. c.in_default.not-Assign t o v (is-Assign c.args.value.now t o v e)) (λ f e. c.in_default.not-Fun f (is-Fun c.args.value.now f e))
