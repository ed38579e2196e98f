use Rattle.std.proofs.Common.{◌++◌, ◌+◌, ◌∷◌, [], map, take, drop, ap, sym, ◌∙◌, append_assoc, append-nil}
use Rattle.std.proofs.lemmas.List.{drop_all}
use Rattle.js_tree.specs.Parts.{ATail, node_of, tails_behind}
use Rattle.js_tree.proofs.RowLemmas.{tails_next}
use Rattle.js_tree.proofs.node_list.push_tails.Goals as goal

pub loop-at-preserved : goal.loop-at-preserved
loop-at-preserved c =
    let head = c.args.head.now in
    let tails = c.args.tails.now in
    let i = c.loop-at.at in
    let mid = map node_of c.loop-at.out.items in
    let rest = tails_behind head (take (i + 1) tails) (drop (i + 1) tails) [] in
    ap (λ xs. xs ++ rest) (c.in_ok-push.ensures {u = tt}) ∙ append_assoc mid (ATail head (take i tails) c.index-tails-at.result ∷ []) rest
    ∙ ap (λ xs. mid ++ xs) (sym (tails_next (λ n more. n ∷ more) head tails i c.index-tails-at.result [] c.loop-at-test.true c.index-tails-at.is))
    ∙ c.loop-at.invariant

pub returns : goal.returns
returns c =
    let head = c.args.head.now in
    let tails = c.args.tails.now in
    let i = c.loop-at.at in
    let mid = map node_of c.loop-at.out.items in
    sym (ap (λ xs. mid ++ tails_behind head (take i tails) xs []) (drop_all i tails c.loop-at-test.false) ∙ append-nil mid) ∙ c.loop-at.invariant
