-- What the size of modules bounds.
use Rattle.std.proofs.Common.{◌≤◌, List, [], ◌∷◌, length, arith, sum_by}
use Rattle.std.proofs.lemmas.List.Sums.{sum_by-cons}
use Rattle.js_scopes.specs.declared.function.FunctionInfo.{FunctionInfo}
use Rattle.flow_rules.specs.Constraints.{ModuleConstraints}
use Rattle.composer.specs.Graphs.{function_count}
use Rattle.composer.specs.Sizes.{function_size, module_size, size_of}

functions_below : (fs : List FunctionInfo) → length fs ≤ sum_by function_size fs
functions_below [] = omega arith
functions_below (f ∷ fs) = omega (arith, functions_below fs, sum_by-cons function_size f fs)

-- there are fewer functions than the size is
pub count_below_size : (modules : List ModuleConstraints) → function_count modules ≤ size_of modules
count_below_size [] = omega arith
count_below_size (c ∷ cs) = omega (arith, count_below_size cs, functions_below c.functions, sum_by-cons (λ (d : ModuleConstraints). length d.functions) c cs, sum_by-cons (λ (d : ModuleConstraints). module_size (length d.flows) d) c cs)
