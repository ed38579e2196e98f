use Rattle.std.proofs.Common.{◌+◌, ◌≤◌, arith, ap, length, subst, sym, ◌∙◌, []}
use Rattle.js_tree.specs.declared.tree.Expr.{out-Expr}
use Rattle.js_tree.specs.declared.tree.Expr.TheVariants.{outs-New}
use Rattle.js_tree.specs.Line.{items}
use Rattle.js_tree.specs.Parts.{AnExpr}
use Rattle.js_tree.specs.Spelling.Expressions.{expr_row}
use Rattle.js_tree.specs.Tokens.{tokens_among}
use Rattle.js_scopes.specs.Calls.{made_with}
use Rattle.js_scopes.proofs.OwnTokens.{few_owned, made_owned}
use Rattle.js_scopes.proofs.call_sites.push_made.Goals as goal

pub count_made-requires : goal.count_made-requires
count_made-requires c =
    let n = c.in-New in
    let k = length (made_with n.args) in
    let few = few_owned (AnExpr c.args.value.now) k
    (subst (λ l. k + 1 ≤ length (tokens_among (expr_row items l []))) (sym (ap out-Expr n.is ∙ outs-New n.word n.head n.tails n.args)) (made_owned n.word n.head n.tails n.args)) c.requires in
    omega (arith, few)
