use Rattle.std.proofs.Common.{◌≡◌, ◌++◌, map, ap, sym, ◌∙◌, arith, subst, Some, None}
use Rattle.std.specs.List.{AllByRecursion}
use Rattle.std.specs.Option.{option_map}
use Rattle.std.proofs.lemmas.List.Folds.{flat_map-map}
use Rattle.std.proofs.lemmas.Result.{on_ok_weaker}
use Rattle.js_tree.specs.Parts.{node_of, parts, count, gathered, left_in}
use Rattle.js_tree.specs.Tokens.{IsInText}
use Rattle.js_tree.specs.declared.node.Node.{Node as Given}
use Rattle.js_tree.specs.declared.walk.Pending.{Pending}
use Rattle.js_tree.proofs.PartLemmas.{gathered_passed, count_is}
use Rattle.js_tree.proofs.TextLemmas.{parts_in_text}
use Rattle.js_tree.proofs.WalkLemmas.{each_put, each_seen, fewer_left, sum_mapped, visited}
use Rattle.js_tree.proofs.walk.visit.Goals as goal

pub returns-in-None : goal.returns-in-None
returns-in-None g c =
    let own = g.G.Gather.own c.args.by.now in
    let inside = g.G.Gather.inside c.args.by.now in
    let n = node_of c.args.next.node in
    let a = g.G.Gather.place c.args.next.around in
    let passed : inside n a ≡ None = sym c.inside.ensures ∙ ap (option_map g.G.Gather.place) c.in-None.is in
    let rest = left_in (λ (p : Pending g.row.G-Around.Denot). gathered own inside (node_of p.node) (g.G.Gather.place p.around)) c.args.left.now.items in
    let k = count_is n in
    record {
      empty = c.requires.empty;
      left = c.requires.left;
      gathers = ap (λ xs. xs ++ rest) (c.in_ok-push_own.ensures {u = tt} ∙ ap (λ xs. map g.G.Gather.given c.args.out.now.items ++ xs) (sym (gathered_passed own inside n a passed)));
      fewer = omega (arith, k);
    }

pub returns-in_ok-push_parts-in-Some-clause-gathers : goal.returns-in_ok-push_parts-in-Some-clause-gathers
returns-in_ok-push_parts-in-Some-clause-gathers g c =
    let place = g.G.Gather.place in
    let own = g.G.Gather.own c.args.by.now in
    let inside = g.G.Gather.inside c.args.by.now in
    let n = node_of c.args.next.node in
    let a = place c.args.next.around in
    let ps = c.push_parts.new.out.items in
    let d = place c.in-Some.inner in
    let through : inside n a ≡ Some d = sym c.inside.ensures ∙ ap (option_map place) c.in-Some.is in
    let same : map node_of ps ≡ parts n = c.in_ok-push_parts-in-Some.ensures {u = tt} ∙ ap (λ xs. map node_of xs ++ parts n) c.requires.empty in
    let pend = λ (x : Given). let p : Pending g.row.G-Around.Denot = record { node = x; around = c.in-Some.inner } in p in
    let give = λ (p : Pending g.row.G-Around.Denot). gathered own inside (node_of p.node) (place p.around) in
    on_ok_weaker c.push_pending.result
    (λ h. visited own inside n a d (map g.G.Gather.given c.args.out.now.items) (map g.G.Gather.given c.push_own.new.out.items) give c.args.left.now.items c.push_pending.new.left.items pend node_of ps
    (c.in_ok-push_own.ensures {u = tt}) through same h (flat_map-map give pend ps))
    c.push_pending.ensures.moved

pub returns-in_ok-push_parts-in-Some-clause-fewer : goal.returns-in_ok-push_parts-in-Some-clause-fewer
returns-in_ok-push_parts-in-Some-clause-fewer g c =
    let n = node_of c.args.next.node in
    let ps = c.push_parts.new.out.items in
    let same : map node_of ps ≡ parts n = c.in_ok-push_parts-in-Some.ensures {u = tt} ∙ ap (λ xs. map node_of xs ++ parts n) c.requires.empty in
    let pend = λ (x : Given). let p : Pending g.row.G-Around.Denot = record { node = x; around = c.in-Some.inner } in p in
    let size = λ (p : Pending g.row.G-Around.Denot). count (node_of p.node) in
    on_ok_weaker c.push_pending.result (λ h. fewer_left n size c.args.left.now.items c.push_pending.new.left.items pend node_of ps same h (sum_mapped size pend ps)) c.push_pending.ensures.moved

pub returns-in_ok-push_parts-in-Some-clause-left : goal.returns-in_ok-push_parts-in-Some-clause-left
returns-in_ok-push_parts-in-Some-clause-left g c =
    let n = node_of c.args.next.node in
    let ps = c.push_parts.new.out.items in
    let same : map node_of ps ≡ parts n = c.in_ok-push_parts-in-Some.ensures {u = tt} ∙ ap (λ xs. map node_of xs ++ parts n) c.requires.empty in
    let pend = λ (x : Given). let p : Pending g.row.G-Around.Denot = record { node = x; around = c.in-Some.inner } in p in
    let P = λ (p : Pending g.row.G-Around.Denot). IsInText (node_of p.node) in
    let each = each_seen IsInText node_of ps (subst (AllByRecursion IsInText) (sym same) (parts_in_text n c.requires.next)) in
    on_ok_weaker c.push_pending.result (λ h. subst (AllByRecursion P) (sym h) (each_put P pend c.args.left.now.items ps c.requires.left each)) c.push_pending.ensures.moved
