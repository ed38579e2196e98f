use Rattle.std.proofs.Common.{◌≡◌, ◌++◌, ℕ, List, true}
use Rattle.std.specs.List.{fold}
use Rattle.js_tree.specs.declared.escape.ValuePart.TheVariants as part
use Rattle.js_tree.specs.Lexical.Value.{next, units_from, is_low}
use Rattle.js_tree.proofs.value.units_in.Given as goal

abbrev pub invariant-loop-c : goal.invariant-loop-c
invariant-loop-c l = record {
  low : is_low l.part ≡ true;
  ends : fold next part.Plain l.yielded ≡ l.part;
  units : (cs : List ℕ) → l.units.items ++ units_from l.part cs ≡ units_from part.Plain (l.yielded ++ cs);
}
