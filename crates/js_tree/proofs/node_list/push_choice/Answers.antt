use Rattle.std.proofs.Common.{◌∷◌, List, [], map, refl}
use Rattle.std.proofs.lemmas.Result.{on_ok_weaker}
use Rattle.js_tree.specs.declared.lists.Arm.{Arm}
use Rattle.js_tree.specs.declared.tree.Expr.{Expr}
use Rattle.js_tree.specs.Parts.{Node, AnExpr, node_of}
use Rattle.js_tree.specs.Spelling.Rows.{each_of}
use Rattle.js_tree.proofs.Adding.{put_onto}
use Rattle.js_tree.proofs.OntoLemmas.{then_put}
use Rattle.js_tree.proofs.node_list.push_choice.Goals as goal

pub returns : goal.returns
returns c =
    let row0 : List Node → List Node = each_of (λ (x : Arm Expr) (more : List Node). AnExpr x.test ∷ AnExpr x.value ∷ more) c.args.arms.now in
    let m0 = map node_of c.args.out.now.items in
    let m1 = map node_of c.push_arms.new.out.items in
    let new = map node_of c.push.new.out.items in
    let rest1 = AnExpr c.args.last.now ∷ [] in
    on_ok_weaker c.push.result
    (λ h. then_put row0 (put_onto (λ (x : Arm Expr) (more : List Node). AnExpr x.test ∷ AnExpr x.value ∷ more) (λ x more. refl) c.args.arms.now) m0 m1 new rest1 (c.in_ok-push_arms.ensures {u = tt}) (h))
    c.push.ensures
