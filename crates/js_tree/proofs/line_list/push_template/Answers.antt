use Rattle.std.proofs.Common.{◌++◌, ◌∷◌, List, [], map, refl, ap, sym, ◌∙◌}
use Rattle.std.proofs.lemmas.Result.{on_ok_weaker}
use Rattle.js_tree.specs.Line.{LineItem, AToken, given_marks, item_of, items}
use Rattle.js_tree.specs.Spelling.Rows.{each_of, listed_row, template_parts}
use Rattle.js_tree.proofs.OntoLemmas.{then_put, template_items}
use Rattle.js_tree.proofs.line_list.push_template.Goals as goal

pub returns : goal.returns
returns c =
    let row0 : List LineItem → List LineItem = (λ more. AToken c.args.template.now.head ∷ more) in
    let m0 = map item_of c.args.out.now.items in
    let m1 = map item_of c.push_token.new.out.items in
    let new = map item_of c.push_substitutions.new.out.items in
    let rest1 = template_parts given_marks items.expr c.args.template.now.parts [] in
    on_ok_weaker c.push_substitutions.result
    (λ h. then_put row0 (λ more. refl) m0 m1 new rest1 (c.in_ok-push_token.ensures {u = tt}) (h ∙ ap (λ xs. m1 ++ each_of (listed_row given_marks items.expr) xs []) c.as_slice.ensures ∙ ap (λ is. m1 ++ is) (sym (template_items c.args.template.now.parts []))))
    c.push_substitutions.ensures
