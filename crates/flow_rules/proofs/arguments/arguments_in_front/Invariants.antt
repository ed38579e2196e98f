use Rattle.std.proofs.Common.{◌≡◌, map, take}
use Rattle.js_tree.specs.declared.lists.Element.{Element}
use Rattle.js_tree.specs.declared.lists.Listed.{Listed}
use Rattle.js_tree.specs.declared.tree.Expr.{Expr}
use Rattle.flow_rules.specs.AtHand.{facts_in}
use Rattle.flow_rules.specs.Calls.{argument_of}
use Rattle.flow_rules.proofs.arguments.arguments_in_front.Given as goal

abbrev pub invariant-loop-listed : goal.invariant-loop-listed
invariant-loop-listed l = l.found.items ≡ map (λ (x : Listed (Element Expr)). argument_of (facts_in l.facts) x.item) (take l.listed-index l.front)
