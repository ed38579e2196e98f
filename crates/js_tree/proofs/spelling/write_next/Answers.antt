use Rattle.std.proofs.Common.{◌++◌, ◌+◌, ◌<◌, ap, sym, ◌∙◌, subst, append_assoc}
use Rattle.std.specs.List.{sum_by}
use Rattle.std.proofs.lemmas.Result.{on_ok_weaker}
use Rattle.js_tree.specs.declared.line.LineItem.{LineItem as Given}
use Rattle.js_tree.specs.Parts.{left_in, node_of}
use Rattle.js_tree.specs.Line.{item_of, line_of, tokens_at, work_for}
use Rattle.js_tree.proofs.LineLemmas.{put_line, put_less}
use Rattle.js_tree.proofs.WalkLemmas.{from_nothing}
use Rattle.js_tree.proofs.spelling.write_next.Goals as goal

pub returns-in_ok-push_line-in-Node-clause-writes : goal.returns-in_ok-push_line-in-Node-clause-writes
returns-in_ok-push_line-in-Node-clause-writes c =
    let n = node_of c.in-Node.node in
    let old = c.args.left.now.items in
    let same = from_nothing item_of c.args.line.now.items c.push_line.new.out.items (line_of n) c.requires (c.in_ok-push_line-in-Node.ensures {u = tt}) in
    on_ok_weaker c.put_on_top.result
    (λ h. ap (λ us. c.args.out.now.items ++ us) (put_line item_of n old c.put_on_top.new.left.items c.push_line.new.out.items same h
    ∙ ap (λ (p : Given). tokens_at (item_of p) ++ left_in (λ q. tokens_at (item_of q)) old) (sym c.in-Node.is))
    ∙ sym (append_assoc c.args.out.now.items (tokens_at (item_of c.args.next)) (left_in (λ q. tokens_at (item_of q)) old)))
    c.put_on_top.ensures.moved

pub returns-in_ok-push_line-in-Node-clause-fewer : goal.returns-in_ok-push_line-in-Node-clause-fewer
returns-in_ok-push_line-in-Node-clause-fewer c =
    let n = node_of c.in-Node.node in
    let old = c.args.left.now.items in
    let same = from_nothing item_of c.args.line.now.items c.push_line.new.out.items (line_of n) c.requires (c.in_ok-push_line-in-Node.ensures {u = tt}) in
    on_ok_weaker c.put_on_top.result
    (λ h. subst (λ (p : Given). sum_by (λ q. work_for (item_of q)) c.put_on_top.new.left.items < work_for (item_of p) + sum_by (λ q. work_for (item_of q)) old) (sym c.in-Node.is)
    (put_less item_of n old c.put_on_top.new.left.items c.push_line.new.out.items same h))
    c.put_on_top.ensures.moved
