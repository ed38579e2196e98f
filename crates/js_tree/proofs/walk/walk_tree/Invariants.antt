use Rattle.std.proofs.Common.{◌≡◌, ◌++◌, [], map}
use Rattle.std.specs.List.{AllByRecursion, sum_by}
use Rattle.js_tree.specs.Parts.{node_of, count, gathered, left_in}
use Rattle.js_tree.specs.Tokens.{IsInText}
use Rattle.js_tree.proofs.walk.walk_tree.Given as goal

abbrev pub invariant-loop-next : goal.invariant-loop-next
invariant-loop-next g l = record {
  empty : l.parts.items ≡ [];
  left : AllByRecursion (λ p. IsInText (node_of p.node)) l.left.items;
  gathers : map g.G.Gather.given l.out.items ++ left_in (λ p. gathered (g.G.Gather.own l.by) (g.G.Gather.inside l.by) (node_of p.node) (g.G.Gather.place p.around)) l.left.items
      ≡ map g.G.Gather.given l.initial.out.items ++ gathered (g.G.Gather.own l.by) (g.G.Gather.inside l.by) (node_of l.fn.node) (g.G.Gather.place l.fn.around);
}

abbrev pub decreases-loop-next : goal.decreases-loop-next
decreases-loop-next g l = sum_by (λ p. count (node_of p.node)) l.left.items
