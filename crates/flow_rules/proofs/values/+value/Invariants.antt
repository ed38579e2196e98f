use Rattle.std.proofs.Common.{◌+◌, ◌*◌, ◌∷◌}
use Rattle.js_tree.specs.Parts.{AnExpr, height}
use Rattle.js_tree.proofs.PartLemmas.{highest}
use Rattle.flow_rules.proofs.ValueLemmas.{operand_nodes}
use Rattle.flow_rules.proofs.values.+value.Given as goal

abbrev pub decreases-value_of : goal.decreases-value_of
decreases-value_of l = 3 * height (AnExpr l.value.now) + 0

abbrev pub decreases-assigned_value : goal.decreases-assigned_value
decreases-assigned_value l = 3 * height (AnExpr l.from.now) + 1

abbrev pub decreases-value_up_to : goal.decreases-value_up_to
decreases-value_up_to l = 3 * height (AnExpr l.head.now) + 1

abbrev pub decreases-last_value : goal.decreases-last_value
decreases-last_value l = 3 * highest (AnExpr l.first.now ∷ operand_nodes l.rest.now) + 1

abbrev pub decreases-operands_value : goal.decreases-operands_value
decreases-operands_value l = 3 * highest (AnExpr l.first.now ∷ operand_nodes l.rest.now) + 2
