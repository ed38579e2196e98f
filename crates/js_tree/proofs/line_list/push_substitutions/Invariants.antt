use Rattle.std.proofs.Common.{◌≡◌, ◌++◌, ◌∷◌, List, [], map, take}
use Rattle.js_tree.specs.declared.lists.Listed.{Listed}
use Rattle.js_tree.specs.declared.tree.Expr.{Expr}
use Rattle.js_tree.specs.Parts.{AnExpr}
use Rattle.js_tree.specs.Line.{LineItem, AToken, ANode, item_of}
use Rattle.js_tree.specs.Spelling.Rows.{each_of}
use Rattle.js_tree.proofs.line_list.push_substitutions.Given as goal

abbrev pub invariant-loop-part : goal.invariant-loop-part
invariant-loop-part l = map item_of l.out.items ≡ map item_of l.initial.out.items ++ each_of (λ (x : Listed Expr) (more : List LineItem). ANode (AnExpr x.item) ∷ AToken x.mark ∷ more) (take l.part-index l.parts) []
