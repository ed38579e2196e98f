use Rattle.std.proofs.Common.{map, take}
use Rattle.js_scopes.specs.Indexed.{IsIndexed}
use Rattle.js_scopes.proofs.declaration.Scope.of.Given as goal

abbrev pub invariant-loop-token : goal.invariant-loop-token
invariant-loop-token l = IsIndexed l.starts.entries l.firsts.items (map (λ t. t.now) (take l.token-index l.token-items))
