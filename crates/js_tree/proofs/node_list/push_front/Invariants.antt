use Rattle.std.proofs.Common.{◌≡◌, ◌++◌, ◌∷◌, List, [], map, take}
use Rattle.js_tree.specs.declared.lists.Listed.{Listed}
use Rattle.js_tree.specs.declared.lists.Element.{Element}
use Rattle.js_tree.specs.declared.tree.Expr.{Expr}
use Rattle.js_tree.specs.Parts.{Node, AnExpr, node_of}
use Rattle.js_tree.specs.Spelling.Rows.{each_of}
use Rattle.js_tree.proofs.node_list.push_front.Given as goal

abbrev pub invariant-loop-listed : goal.invariant-loop-listed
invariant-loop-listed l = map node_of l.out.items ≡ map node_of l.initial.out.items ++ each_of (λ (x : Listed (Element Expr)) (more : List Node). AnExpr x.item.value ∷ more) (take l.listed-index l.front) []
