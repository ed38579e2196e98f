use Rattle.std.proofs.Common.{◌≡◌, true, take}
use Rattle.std.specs.List.{fold}
use Rattle.js_tree.specs.Lexical.Quoted.{in_escape, is_low}
use Rattle.js_tree.specs.declared.part.EscapePart.TheVariants as part
use Rattle.js_tokens.proofs.reach.are_right.Given as goal

abbrev pub invariant-loop-byte : goal.invariant-loop-byte
invariant-loop-byte l = record {
  reads : l.part ≡ fold in_escape part.Plain (take l.byte-index l.bytes);
  low : is_low l.part ≡ true;
}
