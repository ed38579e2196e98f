use Rattle.std.proofs.Common.{◌≡◌, ◌+◌, length}
use Rattle.js_scopes.specs.Brackets.{elements, listed, placed}
use Rattle.js_scopes.proofs.BracketLemmas.{placed_from}
use Rattle.js_scopes.proofs.brackets.count_placed.Given as goal

abbrev pub invariant-loop-listed : goal.invariant-loop-listed
invariant-loop-listed l = record {
  at : l.count ≡ l.listed-index;
  all : l.listed-items ≡ l.arguments.front;
  rest : l.count + length (placed_from l.listed-items (listed l.arguments.last) l.listed-index) ≡ length (placed (elements l.arguments));
}
