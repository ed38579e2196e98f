use Rattle.std.proofs.Common.{◌≡◌, ◌++◌, [], ◌∷◌, refl, subst, map, ap, sym, ◌∙◌, append_assoc}
use Rattle.std.specs.List.{AllByRecursion}
use Rattle.js_tree.specs.Tokens.{IsInText}
use Rattle.js_tree.proofs.GatherLemmas.{each_back, each_front}
use Rattle.js_tree.specs.Parts.{node_of, gathered, left_in}
use Rattle.js_tree.specs.declared.walk.Pending.{Pending}
use Rattle.js_tree.proofs.WalkLemmas.{left_last}
use Rattle.js_tree.proofs.walk.walk_tree.Goals as goal

pub loop-next-preserved : goal.loop-next-preserved
loop-next-preserved g c =
    let give = λ (p : Pending g.row.G-Around.Denot). gathered (g.G.Gather.own c.args.by.now) (g.G.Gather.inside c.args.by.now) (node_of p.node) (g.G.Gather.place p.around) in
    let out = map g.G.Gather.given c.loop-next.out.items in
    let next = give c.in-Some.next in
    let rest = c.pop.new.self.items in
    record {
      empty = c.in_ok-visit.ensures.empty;
      left = c.in_ok-visit.ensures.left;
      gathers = c.in_ok-visit.ensures.gathers ∙ append_assoc out next (left_in give rest)
          ∙ ap (λ xs. out ++ xs) (sym (ap (left_in give) c.in-Some.ensures.items ∙ left_last give rest c.in-Some.next)) ∙ c.loop-next.invariant.gathers;
    }

pub visit-requires : goal.visit-requires
visit-requires g c =
    let P = λ (p : Pending g.row.G-Around.Denot). IsInText (node_of p.node) in
    let all = subst (AllByRecursion P) c.in-Some.ensures.items c.loop-next.invariant.left in
    let rest = c.pop.new.self.items in
    let last = c.in-Some.next ∷ [] in
    λ k. ((refl, tt), (c.loop-next.invariant.empty, ((each_back P rest last all).0, each_front P rest last all)))

pub loop-next-init : goal.loop-next-init
loop-next-init g c =
    let give = λ (p : Pending g.row.G-Around.Denot). gathered (g.G.Gather.own c.args.by.now) (g.G.Gather.inside c.args.by.now) (node_of p.node) (g.G.Gather.place p.around) in
    let first : Pending g.row.G-Around.Denot = record { node = c.args.node; around = c.args.around } in
    let e : c.push.new.self.items ≡ first ∷ [] = (c.in_ok-push.ensures {u = tt}).items ∙ ap (λ ps. ps ++ first ∷ []) c.new-left.ensures.items in
    record {
      empty = c.new-parts.ensures.items;
      left = subst (AllByRecursion (λ (p : Pending g.row.G-Around.Denot). IsInText (node_of p.node))) (sym e) (c.requires, tt);
      gathers = ap (λ ps. map g.G.Gather.given c.args.out.now.items ++ left_in give ps) e;
    }
