use Rattle.std.proofs.Common.{◌≡◌, ◌≤◌, ◌<◌, ◌-◌, length, false}
use Rattle.js_tree.specs.Spelling.{tallest_of}
use Rattle.js_parser.proofs.TemplateLemmas.{Parts, part_height}
use Rattle.js_parser.proofs.grammar.Grammar.substitutions.Given as goal

abbrev pub invariant-substitutions : goal.invariant-substitutions
invariant-substitutions g l = record {
  parts : Parts (l.self.room - 1) l.fn.reader l.all l.more l.reader;
  height : l.height ≡ tallest_of part_height l.all;
  within : length l.reader.left ≤ length l.fn.reader.left;
  shorter : l.more ≡ false → length l.reader.left < length l.fn.reader.left;
}

abbrev pub decreases-substitutions : goal.decreases-substitutions
decreases-substitutions g l = length l.reader.left
