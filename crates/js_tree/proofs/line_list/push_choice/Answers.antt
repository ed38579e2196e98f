use Rattle.std.proofs.Common.{◌∷◌, List, [], map, refl}
use Rattle.std.proofs.lemmas.Result.{on_ok_weaker}
use Rattle.js_tree.specs.Line.{LineItem, ANode, given_marks, item_of, items}
use Rattle.js_tree.specs.Parts.{AnExpr}
use Rattle.js_tree.specs.Spelling.Rows.{arm_row, each_of}
use Rattle.js_tree.proofs.Adding.{put_onto}
use Rattle.js_tree.proofs.OntoLemmas.{then_put}
use Rattle.js_tree.proofs.line_list.push_choice.Goals as goal

pub returns : goal.returns
returns c =
    let row0 : List LineItem → List LineItem = each_of (arm_row given_marks items.expr) c.args.arms.now in
    let m0 = map item_of c.args.out.now.items in
    let m1 = map item_of c.push_arms.new.out.items in
    let new = map item_of c.push_node.new.out.items in
    let rest1 = ANode (AnExpr c.args.last.now) ∷ [] in
    on_ok_weaker c.push_node.result
    (λ h. then_put row0 (put_onto (arm_row given_marks items.expr) (λ x more. refl) c.args.arms.now) m0 m1 new rest1 (c.in_ok-push_arms.ensures {u = tt}) (h))
    c.push_node.ensures
