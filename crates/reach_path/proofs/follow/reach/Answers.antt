use Rattle.std.proofs.Common.{◌≡◌, ℕ, ◌+◌, ◌<◌, List, length, get_or, slice_index, sum, ap, sym, ◌∙◌, subst, arith}
use Rattle.std.proofs.lemmas.List.{get_or_default}
use Rattle.jam_base.specs.declared.edge.Edge.{Edge}
use Rattle.reach_path.specs.Graphs.{IsNumbered, Numbered}
use Rattle.reach_path.specs.Lasts.{AreLasts}
use Rattle.reach_path.specs.Numbers.{starts_from}
use Rattle.reach_path.specs.Reached.{IsKept, IsReachOf, Reached}
use Rattle.reach_path.specs.Search.{AreLevels}
use Rattle.reach_path.proofs.CountLemmas.{kept_made, reach_made}
use Rattle.reach_path.proofs.NumberLemmas.{last_start, length-starts_from}
use Rattle.reach_path.proofs.RouteLemmas.{numbers, numbers_fit}
use Rattle.reach_path.proofs.follow.reach.Goals as goal

pub index-nodes-requires : goal.index-nodes-requires
index-nodes-requires c = omega (arith, length-starts_from 0 c.args.functions.now, ap length c.in_ok-starts.ensures.starts, c.in_ok-starts.starts.ok.0)

pub index-begin-requires : goal.index-begin-requires
index-begin-requires c = omega (arith, length-starts_from 0 c.args.functions.now, ap length c.in_ok-starts.ensures.starts, c.in_ok-starts.starts.ok.0, c.requires.entry.in_modules)

-- the numbered edges that are made
made : (counts : List ℕ) (edges : List Edge) (entry : ℕ) (starts slice : List ℕ) (nodes begin : ℕ) → starts ≡ starts_from 0 counts → slice ≡ starts → entry < length counts
    → nodes ≡ get_or starts (length counts) nodes → begin ≡ get_or starts entry begin → record { starts = slice; edges = edges; nodes = nodes; begin = begin } ≡ numbers counts edges entry
made counts edges entry starts slice nodes begin is same lt n b =
    let size : length starts ≡ length counts + 1 = ap length is ∙ length-starts_from 0 counts in
    let all : nodes ≡ sum counts = n ∙ get_or_default starts (length counts) nodes 0 (omega (arith, size)) ∙ ap (λ xs. slice_index xs (length counts)) is ∙ last_start 0 counts ∙ omega arith in
    let first : begin ≡ slice_index (starts_from 0 counts) entry = b ∙ get_or_default starts entry begin 0 (omega (arith, size, lt)) ∙ ap (λ xs. slice_index xs entry) is in
    let front : slice ≡ starts_from 0 counts = same ∙ is in
    λ i. record { starts = front i; edges = edges; nodes = all i; begin = first i }

pub of-graph-requires : goal.of-graph-requires
of-graph-requires c =
    let counts = c.args.functions.now in
    let edges = c.args.edges.now in
    subst IsNumbered (sym (made counts edges c.args.entry c.in_ok-starts.starts.items c.as_slice.result.now c.index-nodes.result.now c.index-begin.result.now c.in_ok-starts.ensures.starts c.as_slice.ensures.value c.requires.entry.in_modules c.index-nodes.ensures c.index-begin.ensures))
    (numbers_fit counts edges c.args.entry c.if-edges-gt-MOST.false c.requires.few c.requires.between c.requires.entry)

pub invariant_of-result : goal.invariant_of-result
invariant_of-result c =
    let counts = c.args.functions.now in
    let edges = c.args.edges.now in
    let levels = c.in_ok-levels.levels.items in
    let lasts = c.in_ok-lasts.lasts.items in
    let g_is : c.of-graph.result ≡ numbers counts edges c.args.entry
    = c.of-graph.ensures ∙ made counts edges c.args.entry c.in_ok-starts.starts.items c.as_slice.result.now c.index-nodes.result.now c.index-begin.result.now c.in_ok-starts.ensures.starts c.as_slice.ensures.value c.requires.entry.in_modules c.index-nodes.ensures c.index-begin.ensures in
    let h : AreLevels (numbers counts edges c.args.entry) levels = subst (λ (g : Numbered). AreLevels g levels) g_is c.in_ok-levels.ensures in
    let l : AreLasts (numbers counts edges c.args.entry) levels 0 lasts = subst (λ xs. AreLasts (numbers counts edges c.args.entry) xs 0 lasts) c.as_slice-2.ensures.value (subst (λ (g : Numbered). AreLasts g c.as_slice-2.result.now 0 lasts) g_is c.in_ok-lasts.ensures) in
    subst (λ xs. let r : Reached = record { starts = xs; levels = levels; lasts = lasts } in IsKept r) (sym c.in_ok-starts.ensures.starts)
    (kept_made counts edges c.args.entry c.requires.between c.requires.entry levels h lasts l c.in_ok-starts.ensures.few c.requires.few)

pub returns : goal.returns
returns c =
    let counts = c.args.functions.now in
    let edges = c.args.edges.now in
    let levels = c.in_ok-levels.levels.items in
    let lasts = c.in_ok-lasts.lasts.items in
    let g_is : c.of-graph.result ≡ numbers counts edges c.args.entry
    = c.of-graph.ensures ∙ made counts edges c.args.entry c.in_ok-starts.starts.items c.as_slice.result.now c.index-nodes.result.now c.index-begin.result.now c.in_ok-starts.ensures.starts c.as_slice.ensures.value c.requires.entry.in_modules c.index-nodes.ensures c.index-begin.ensures in
    let h : AreLevels (numbers counts edges c.args.entry) levels = subst (λ (g : Numbered). AreLevels g levels) g_is c.in_ok-levels.ensures in
    let l : AreLasts (numbers counts edges c.args.entry) levels 0 lasts = subst (λ xs. AreLasts (numbers counts edges c.args.entry) xs 0 lasts) c.as_slice-2.ensures.value (subst (λ (g : Numbered). AreLasts g c.as_slice-2.result.now 0 lasts) g_is c.in_ok-lasts.ensures) in
    subst (λ xs. let r : Reached = record { starts = xs; levels = levels; lasts = lasts } in IsReachOf edges c.args.entry r) (sym c.in_ok-starts.ensures.starts)
    (reach_made counts edges c.args.entry c.requires.between c.requires.entry levels h lasts l c.requires.sorted)
