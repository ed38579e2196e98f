use Rattle.std.proofs.Common.{◌≡◌, ◌<◌, ◌≤◌, List, [], ◌∷◌, drop, get_or, ◌-◌, take, length, length-drop, arith, subst}
use Rattle.std.proofs.lemmas.List.{take_all}
use Rattle.reach_path.specs.Graphs.{no_edge}
use Rattle.std.specs.Prelude.{All}
use Rattle.std.specs.List.Sorted.{IsStrictlySortedBy}
use Rattle.std.specs.declared.cmp.Ordering.TheVariants.{Less}
use Rattle.std.proofs.lemmas.List.Elements.{recursion_from_All}
use Rattle.jam_base.specs.declared.edge.Edge.{Edge}
use Rattle.jam_base.specs.Edges.{edge_order}
use Rattle.graph_tests.proofs.reach_path_tests.+ascend.Goals as goal

sorted_none : (xs : List Edge) → length xs < 1 → IsStrictlySortedBy edge_order xs
unfolding IsStrictlySortedBy
sorted_none [] lt = tt
sorted_none (x ∷ xs) lt = absurd (omega (arith, lt))

sorted_more : (xs : List Edge) (d : Edge) → 1 ≤ length xs → All (λ e. edge_order (get_or xs 0 d) e ≡ Less) (drop 1 xs) → IsStrictlySortedBy edge_order (drop 1 xs) → IsStrictlySortedBy edge_order xs
unfolding IsStrictlySortedBy
sorted_more [] d le all rest = absurd (omega (arith, le))
sorted_more (x ∷ xs) d le all rest = (recursion_from_All (λ e. edge_order x e ≡ Less) xs all, rest)

pub returns-in-empty : goal.returns-in-empty
returns-in-empty n c is = sorted_none c.args.edges.now c.in-empty.len_below

pub returns-then-all_behind : goal.returns-then-all_behind
returns-then-all_behind n c is =
    let edges = c.args.edges.now in
    let tail : take (length edges - 1) (drop 1 edges) ≡ drop 1 edges = take_all (length edges - 1) (drop 1 edges) (omega (arith, length-drop 1 edges)) in
    sorted_more edges no_edge c.in-len1-up.len_at_least
    (subst (All (λ e. edge_order (get_or edges 0 no_edge) e ≡ Less)) tail (c.all_behind.ensures.0 c.if-all_behind.true))
    (subst (IsStrictlySortedBy edge_order) tail (c.ascend.ensures is))
