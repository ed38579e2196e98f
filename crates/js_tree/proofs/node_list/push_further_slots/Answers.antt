use Rattle.std.proofs.Common.{◌++◌, ◌∷◌, List, [], map, refl, ap, ◌∙◌}
use Rattle.js_tree.specs.declared.lists.Further.{Further}
use Rattle.js_tree.specs.declared.tree.Slot.{Slot}
use Rattle.js_tree.specs.Parts.{Node, ASlot, node_of}
use Rattle.js_tree.proofs.Adding.{put_more}
use Rattle.js_tree.proofs.node_list.push_further_slots.Goals as goal

pub loop-further-preserved : goal.loop-further-preserved
loop-further-preserved c =
    let mid = map node_of c.loop-further.out.items in
    put_more (λ (x : Further Slot) (more : List Node). ASlot x.item ∷ more) (λ x more. refl) (map node_of c.args.out.now.items) mid (map node_of c.push.new.out.items) c.args.rest.now c.loop-further.further-index c.further-item.result
    c.loop-further-test.true c.loop-further.invariant
    (c.in_ok-push.ensures {u = tt} ∙ ap (λ (x : Further Slot). mid ++ ASlot x.item ∷ []) c.further-item.is)
