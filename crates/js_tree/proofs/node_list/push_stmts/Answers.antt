use Rattle.std.proofs.Common.{◌++◌, ◌∷◌, List, [], map, refl, ap, ◌∙◌}
use Rattle.js_tree.specs.declared.tree.Stmt.{Stmt}
use Rattle.js_tree.specs.Parts.{Node, AStmt, node_of}
use Rattle.js_tree.proofs.Adding.{put_more}
use Rattle.js_tree.proofs.node_list.push_stmts.Goals as goal

pub loop-statement-preserved : goal.loop-statement-preserved
loop-statement-preserved c =
    let mid = map node_of c.loop-statement.out.items in
    put_more (λ (x : Stmt) (more : List Node). AStmt x ∷ more) (λ x more. refl) (map node_of c.args.out.now.items) mid (map node_of c.push.new.out.items) c.args.body.now c.loop-statement.statement-index c.statement-item.result
    c.loop-statement-test.true c.loop-statement.invariant
    (c.in_ok-push.ensures {u = tt} ∙ ap (λ (x : Stmt). mid ++ AStmt x ∷ []) c.statement-item.is)
