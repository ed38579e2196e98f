use Rattle.std.proofs.Common.{List, [], map}
use Rattle.std.proofs.lemmas.Result.{on_ok_weaker}
use Rattle.js_tree.specs.Parts.{Node, node_of, nodes}
use Rattle.js_tree.specs.Spelling.Nodes.{unmarked}
use Rattle.js_tree.specs.Spelling.Rows.{bracket_row, each_of}
use Rattle.js_tree.proofs.OntoLemmas.{then_put, params_onto}
use Rattle.js_tree.proofs.node_list.push_keyword.Goals as goal

pub returns : goal.returns
returns c =
    let row0 : List Node → List Node = bracket_row unmarked nodes.slot c.args.params.now in
    let m0 = map node_of c.args.out.now.items in
    let m1 = map node_of c.push_params.new.out.items in
    let new = map node_of c.push_stmts.new.out.items in
    let rest1 = each_of nodes.stmt c.args.body.now [] in
    on_ok_weaker c.push_stmts.result
    (λ h. then_put row0 (λ more. params_onto more c.args.params.now) m0 m1 new rest1 (c.in_ok-push_params.ensures {u = tt}) (h))
    c.push_stmts.ensures
