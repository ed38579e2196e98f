use Rattle.std.proofs.Common.{◌≡◌, ◌++◌, map}
use Rattle.js_scopes.specs.Brackets.{elements, listed, placed}
use Rattle.js_scopes.proofs.BracketLemmas.{placed_from}
use Rattle.js_scopes.proofs.brackets.placed_in.Given as goal

abbrev pub invariant-loop-listed : goal.invariant-loop-listed
invariant-loop-listed l = record {
  all : l.listed-items ≡ l.params.front;
  rest : map (λ s. s.now) l.found.items ++ placed_from l.listed-items (listed l.params.last) l.listed-index ≡ placed (elements l.params);
}
