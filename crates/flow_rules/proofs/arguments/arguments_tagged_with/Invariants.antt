use Rattle.std.proofs.Common.{◌≡◌, ◌∷◌, map, take, None}
use Rattle.js_tree.specs.declared.lists.Listed.{Listed}
use Rattle.js_tree.specs.declared.tree.Expr.{Expr}
use Rattle.flow_rules.specs.declared.arguments.Argument.TheVariants as argument
use Rattle.flow_rules.specs.AtHand.{facts_in}
use Rattle.flow_rules.specs.Values.{value}
use Rattle.flow_rules.proofs.arguments.arguments_tagged_with.Given as goal

abbrev pub invariant-loop-listed : goal.invariant-loop-listed
invariant-loop-listed l = record {
  all : l.listed-items ≡ l.template.parts;
  made : l.found.items ≡ argument.Plain None ∷ map (λ (x : Listed Expr). argument.Plain (value (facts_in l.facts) x.item)) (take l.listed-index l.listed-items);
}
