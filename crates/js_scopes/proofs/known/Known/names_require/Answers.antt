use Rattle.std.proofs.Common.{◌≡◌, false, refl, ap, sym, ◌∙◌}
use Rattle.js_tree.specs.declared.token.Token.{Token}
use Rattle.js_tree.specs.declared.tree.Expr.{out-Expr}
use Rattle.js_tree.specs.declared.tree.Expr.TheOpen.{Expr-F}
use Rattle.js_tree.specs.declared.tree.Expr.TheVariants.{outs-Name}
use Rattle.js_scopes.specs.AtHand.{known_in}
use Rattle.js_tree.specs.Folds.{ExprLayer}
use Rattle.js_scopes.specs.Calls.{Known, names_require}
use Rattle.js_scopes.proofs.Layers.{is-Name}
use Rattle.js_scopes.proofs.known.Known.names_require.Goals as goal

others : (k : Known) (y : ExprLayer) → ((t : Token) → y ≡ Expr-F.«Expr::Name» t → ⊥) → false ≡ names_require k y
others k (Expr-F.«Expr::Name» t) never = absurd (never t refl)
others k _ never = refl

pub returns-in-Name : goal.returns-in-Name
returns-in-Name c = c.is_require.ensures ∙ sym (ap (names_require (known_in c.args.self.now)) (ap out-Expr c.in-Name.is ∙ outs-Name c.in-Name.token))

pub returns-in_default : goal.returns-in_default
returns-in_default c = others (known_in c.args.self.now) (out-Expr c.args.head.now) (λ t e. c.in_default.not-Name t (is-Name c.args.head.now t e))
