use Rattle.std.proofs.Common.{◌++◌, ◌∷◌, List, [], map, refl, ap, ◌∙◌}
use Rattle.js_tree.specs.declared.tree.Stmt.{Stmt}
use Rattle.js_tree.specs.Parts.{AStmt}
use Rattle.js_tree.specs.Line.{LineItem, ANode, item_of}
use Rattle.js_tree.proofs.Adding.{put_more}
use Rattle.js_tree.proofs.line_list.push_body.Goals as goal

pub loop-statement-preserved : goal.loop-statement-preserved
loop-statement-preserved c =
    let mid = map item_of c.loop-statement.out.items in
    put_more (λ (x : Stmt) (more : List LineItem). ANode (AStmt x) ∷ more) (λ x more. refl) (map item_of c.args.out.now.items) mid (map item_of c.push_node.new.out.items) c.args.body.now c.loop-statement.statement-index c.statement-item.result
    c.loop-statement-test.true c.loop-statement.invariant
    (c.in_ok-push_node.ensures {u = tt} ∙ ap (λ (x : Stmt). mid ++ ANode (AStmt x) ∷ []) c.statement-item.is)
