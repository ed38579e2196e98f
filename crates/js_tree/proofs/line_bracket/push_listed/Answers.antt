use Rattle.std.proofs.Common.{◌∷◌, List, [], map}
use Rattle.std.proofs.lemmas.Result.{on_ok_weaker}
use Rattle.js_tree.specs.Line.{LineItem, AToken, ANode, given_marks, item_of, items}
use Rattle.js_tree.specs.Parts.{AnExpr}
use Rattle.js_tree.specs.Spelling.Rows.{element_row}
use Rattle.js_tree.proofs.Adding.{possible_onto}
use Rattle.js_tree.proofs.OntoLemmas.{then_put}
use Rattle.js_tree.proofs.line_bracket.push_listed.Goals as goal

pub returns : goal.returns
returns c =
    let row0 : List LineItem → List LineItem = (element_row given_marks items.expr c.args.listed.now.item) in
    let m0 = map item_of c.args.out.now.items in
    let m1 = map item_of c.push_element.new.out.items in
    let new = map item_of c.push_token.new.out.items in
    let rest1 = AToken c.args.listed.now.mark ∷ [] in
    on_ok_weaker c.push_token.result
    (λ h. then_put row0 (λ more. possible_onto c.args.listed.now.item.dots (ANode (AnExpr c.args.listed.now.item.value) ∷ []) more) m0 m1 new rest1 (c.in_ok-push_element.ensures {u = tt}) (h))
    c.push_token.ensures
