use Rattle.std.proofs.Common.{◌+◌, nat_lt, sym, ap, ◌∙◌}
use Rattle.std.specs.List.{count_by}
use Rattle.js_tree.specs.Parts.{node_of}
use Rattle.js_scopes.specs.declared.function.FunctionInfo.{FunctionInfo}
use Rattle.js_scopes.specs.Scopes.{number_in}
use Rattle.js_scopes.proofs.names.number_in.Goals as goal

pub returns-in-Function : goal.returns-in-Function
returns-in-Function c n same =
    c.function_number.ensures ∙ (λ i. count_by (λ (f : FunctionInfo). nat_lt f.start (c.start_of.ensures i)) (sym same.functions i) + 1)
    ∙ sym (ap (λ m. number_in n (node_of m) c.args.holder) c.in-Function.is)
