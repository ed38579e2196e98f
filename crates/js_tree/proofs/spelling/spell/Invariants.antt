use Rattle.std.proofs.Common.{◌≡◌, ◌++◌, []}
use Rattle.std.specs.List.{sum_by}
use Rattle.js_tree.specs.Parts.{left_in}
use Rattle.js_tree.specs.Spelling.{tokens_of}
use Rattle.js_tree.specs.Line.{item_of, tokens_at, work_for}
use Rattle.js_tree.proofs.spelling.spell.Given as goal

abbrev pub invariant-loop-next : goal.invariant-loop-next
invariant-loop-next l = record {
  empty : l.line.items ≡ [];
  writes : l.out.items ++ left_in (λ p. tokens_at (item_of p)) l.left.items ≡ tokens_of l.fn.tree;
}

abbrev pub decreases-loop-next : goal.decreases-loop-next
decreases-loop-next l = sum_by (λ p. work_for (item_of p)) l.left.items
