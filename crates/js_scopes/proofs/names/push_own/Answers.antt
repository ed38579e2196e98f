use Rattle.std.proofs.Common.{◌++◌, map, sym, ap, ◌∙◌}
use Rattle.std.proofs.lemmas.Result.{on_ok_weaker}
use Rattle.js_tree.specs.declared.tree.Expr.{out-Expr}
use Rattle.js_tree.specs.Parts.{node_of}
use Rattle.js_scopes.specs.Scopes.{around_in, bound_name, own_names, tokens_in_expr}
use Rattle.js_scopes.specs.Around.{around_of}
use Rattle.js_scopes.proofs.names.push_own.Goals as goal

pub returns-in-Expr : goal.returns-in-Expr
returns-in-Expr c n same e =
    let a = around_of c.args.around in
    on_ok_weaker c.push_named.result
    (λ h. h ∙ ap (λ xs. c.args.out.now.items ++ xs) (
    (λ i. map (bound_name n (e i)) (c.token_in_expr.ensures i))
    ∙ ap (λ m. map (bound_name n (around_in n (node_of m) a)) (tokens_in_expr (out-Expr c.in-Expr.value.now))) c.in-Expr.is
    ∙ sym (ap (λ m. own_names n (node_of m) a) c.in-Expr.is)))
    (c.push_named.ensures n same)

pub returns-in-Pattern : goal.returns-in-Pattern
returns-in-Pattern c n same e =
    let a = around_of c.args.around in
    on_ok_weaker c.push_named-in-Pattern.result
    (λ h. h ∙ ap (λ xs. c.args.out.now.items ++ xs) (ap (map (bound_name n a)) c.token_in_pattern.ensures ∙ sym (ap (λ m. own_names n (node_of m) a) c.in-Pattern.is)))
    (c.push_named-in-Pattern.ensures n same)

pub returns-in-Stmt : goal.returns-in-Stmt
returns-in-Stmt c n same e =
    let a = around_of c.args.around in
    on_ok_weaker c.push_named-in-Stmt.result
    (λ h. h ∙ ap (λ xs. c.args.out.now.items ++ xs) (ap (map (bound_name n a)) c.declared_by_stmt.ensures ∙ sym (ap (λ m. own_names n (node_of m) a) c.in-Stmt.is)))
    (c.push_named-in-Stmt.ensures n same)
