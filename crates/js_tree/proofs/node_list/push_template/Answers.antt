use Rattle.std.proofs.Common.{◌++◌, ◌∷◌, [], map, ap, sym, ◌∙◌}
use Rattle.std.proofs.lemmas.Result.{on_ok_weaker}
use Rattle.js_tree.specs.declared.lists.Listed.{Listed}
use Rattle.js_tree.specs.declared.tree.Expr.{Expr}
use Rattle.js_tree.specs.Parts.{AnExpr, node_of}
use Rattle.js_tree.specs.Spelling.Rows.{each_of}
use Rattle.js_tree.proofs.OntoLemmas.{template_nodes}
use Rattle.js_tree.proofs.node_list.push_template.Goals as goal

pub returns : goal.returns
returns c =
    let old = map node_of c.args.out.now.items in
    on_ok_weaker c.push_substitutions.result
    (λ h. h ∙ ap (λ xs. old ++ each_of (λ (x : Listed Expr) more. AnExpr x.item ∷ more) xs []) c.as_slice.ensures ∙ ap (λ ns. old ++ ns) (sym (template_nodes c.args.template.now.parts [])))
    c.push_substitutions.ensures
