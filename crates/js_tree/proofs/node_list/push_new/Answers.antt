use Rattle.std.proofs.Common.{◌∷◌, List, [], map, ap}
use Rattle.std.proofs.lemmas.Result.{on_ok_weaker}
use Rattle.js_tree.specs.Parts.{Node, AnExpr, node_of, nodes, tails_behind}
use Rattle.js_tree.specs.Spelling.Nodes.{unmarked}
use Rattle.js_tree.specs.Spelling.Rows.{bracket_row, maybe}
use Rattle.js_tree.proofs.OntoLemmas.{then_put, tails_onto}
use Rattle.js_tree.proofs.node_list.push_new.Goals as goal

pub returns : goal.returns
returns c =
    let row0 : List Node → List Node = (λ more. AnExpr c.args.head.now ∷ tails_behind c.args.head.now [] c.args.tails.now more) in
    let m0 = map node_of c.args.out.now.items in
    let m1 = map node_of c.push_chain.new.out.items in
    let new = map node_of c.push_arguments.new.out.items in
    let rest1 = maybe (bracket_row unmarked nodes.expr) c.args.args.now [] in
    on_ok_weaker c.push_arguments.result
    (λ h. then_put row0 (λ more. ap (λ ns. AnExpr c.args.head.now ∷ ns) (tails_onto more c.args.head.now c.args.tails.now)) m0 m1 new rest1 (c.in_ok-push_chain.ensures {u = tt}) (h))
    c.push_arguments.ensures
