use Rattle.std.proofs.Common.{◌≡◌, ◌+◌, ◌*◌, drop}
use Rattle.std.proofs.Common.{map as each}
use Rattle.serde_json.specs.Data.{depth, items_depth}
use Rattle.serde_json.specs.View.{items_view, view}
use Rattle.node_resolve.specs.Exports.{conditions_pick, item_picks, list_pick}
use Rattle.node_resolve.proofs.Picks.{rest_pick, star_of}
use Rattle.node_resolve.proofs.pick.+picks.Given as goal

-- the conditions that are left decide
abbrev pub invariant-conditions_pick-loop-name : goal.invariant-conditions_pick-loop-name
invariant-conditions_pick-loop-name l =
    conditions_pick (star_of l.star) (view l.value) (each (λ c. c.now) l.conditions) ≡ conditions_pick (star_of l.star) (view l.value) (drop l.name-index (each (λ c. c.now) l.conditions))

-- the items that are left decide, and whether one was refused
abbrev pub invariant-items_pick-loop-item : goal.invariant-items_pick-loop-item
invariant-items_pick-loop-item l = list_pick (item_picks (star_of l.star) (items_view l.items)) ≡ rest_pick l.refused (item_picks (star_of l.star) (items_view (drop l.item-index l.items)))

abbrev pub decreases-pick_of : goal.decreases-pick_of
decreases-pick_of l = 4 * depth (view l.value.now) + 3

abbrev pub decreases-conditions_pick : goal.decreases-conditions_pick
decreases-conditions_pick l = 4 * depth (view l.value.now) + 2

abbrev pub decreases-condition_pick : goal.decreases-condition_pick
decreases-condition_pick l = 4 * depth (view l.value.now) + 1

abbrev pub decreases-items_pick : goal.decreases-items_pick
decreases-items_pick l = 4 * items_depth (items_view l.items.now) + 4
