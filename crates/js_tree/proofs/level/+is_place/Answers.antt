use Rattle.std.proofs.Common.{sym, ap, ◌∙◌}
use Rattle.js_tree.specs.declared.tree.Expr.{Expr, out-Expr}
use Rattle.js_tree.specs.declared.tree.Expr.TheVariants as expression
use Rattle.js_tree.specs.Levels.{kind_target}
use Rattle.js_tree.proofs.LevelLemmas.{target_by_kind}
use Rattle.js_tree.proofs.level.+is_place.Goals as goal

pub returns-in-Paren : goal.returns-in-Paren
returns-in-Paren t c =
    c.is_place.ensures ∙ ap (λ (x : Expr). kind_target (out-Expr x)) c.get.ensures ∙ sym (target_by_kind c.in-Paren.inner)
    ∙ sym (ap (λ (x : Expr). kind_target (out-Expr x)) c.in-Paren.is ∙ ap kind_target (expression.outs-Paren c.in-Paren.«open» c.in-Paren.inner c.in-Paren.close))
