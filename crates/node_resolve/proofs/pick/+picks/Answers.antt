use Rattle.std.proofs.Common.{◌≡◌, ◌+◌, ℕ, List, Bor, Some, [], drop, subst, arith, sym, ap, ◌∙◌, IfOk}
use Rattle.std.specs.Option.{option_map}
use Rattle.serde_json.specs.Find.{as_array}
use Rattle.serde_json.specs.View.{items_view, view}
use Rattle.serde_json.specs.declared.value.Value.{Value}
use Rattle.jam_base.proofs.Joined.{next_part, texts}
use Rattle.node_resolve.specs.Exports.{conditions_pick}
use Rattle.node_resolve.specs.declared.pick.Pick.{Pick}
use Rattle.node_resolve.proofs.Picks as picks
use Rattle.node_resolve.proofs.Picks.{star_of}
use Rattle.node_resolve.proofs.pick.+picks.Goals as goal

pub condition_pick-pick_of-requires : goal.condition_pick-pick_of-requires
condition_pick-pick_of-requires t c =
    let lower = picks.get_lower c.args.name.now (view c.args.value.now) (view c.in-Some.member.now) (sym c.get.ensures ∙ ap (option_map (λ (v : Bor Value). view v.now)) c.in-Some.is) in
    (omega (arith, lower), tt)

pub conditions_pick-returns-in-Some : goal.conditions_pick-returns-in-Some
conditions_pick-returns-in-Some t c =
    picks.condition_found (star_of c.args.star) (view c.args.value.now) (texts c.args.conditions.now) _ (drop (c.loop-name.name-index + 1) (texts c.args.conditions.now)) _ c.in_ok-pick.field-0 c.in-Some.pick
    (next_part c.args.conditions.now c.loop-name.name-index (record { ref_ptr = (0, 0); now = [] }) c.loop-name-test.true) c.loop-name.invariant (c.in_ok-pick.ensures {u = tt}) c.in-Some.is

pub conditions_pick-loop-name-preserved : goal.conditions_pick-loop-name-preserved
conditions_pick-loop-name-preserved t c =
    picks.condition_later (star_of c.args.star) (view c.args.value.now) (texts c.args.conditions.now) _ (drop (c.loop-name.name-index + 1) (texts c.args.conditions.now)) _ c.in_ok-pick.field-0
    (next_part c.args.conditions.now c.loop-name.name-index (record { ref_ptr = (0, 0); now = [] }) c.loop-name-test.true) c.loop-name.invariant (c.in_ok-pick.ensures {u = tt}) c.in_default.is

pub items_pick-loop-item-init : goal.items_pick-loop-item-init
items_pick-loop-item-init t c = picks.items_begun (star_of c.args.star) c.args.items.now c.is_empty-refused.result c.is_empty-refused.ensures

pub items_pick-pick_of-requires : goal.items_pick-pick_of-requires
items_pick-pick_of-requires t c =
    let lower = picks.item_lower c.args.items.now c.loop-item.item-index c.item-item.result c.loop-item-test.true in
    let same = c.item-item.is in
    (omega (arith, subst (λ (x : Value). picks.IsWithin x c.args.items.now) (sym same) lower), tt)

pub items_pick-returns-in-Some : goal.items_pick-returns-in-Some
items_pick-returns-in-Some t c =
    picks.item_found (star_of c.args.star) c.args.items.now c.loop-item.item-index c.item-item.result c.loop-item.refused c.in_ok-pick.pick c.in-Some.text
    c.loop-item-test.true c.item-item.is c.loop-item.invariant (c.in_ok-pick.ensures {u = tt}) (sym c.path_in.ensures ∙ c.in-Some.is)

pub items_pick-loop-item-preserved : goal.items_pick-loop-item-preserved
items_pick-loop-item-preserved t c =
    picks.item_later (star_of c.args.star) c.args.items.now c.loop-item.item-index c.item-item.result c.loop-item.refused c.is_refused-refused.result c.in_ok-pick.pick
    c.loop-item-test.true c.item-item.is c.loop-item.invariant (c.in_ok-pick.ensures {u = tt}) (sym c.path_in.ensures ∙ c.in_default.is) c.is_refused-refused.ensures

pub items_pick-returns : goal.items_pick-returns
items_pick-returns t c = c.without_path.ensures ∙ picks.items_ended (star_of c.args.star) c.args.items.now c.loop-item.item-index c.loop-item.refused c.loop-item-test.false c.loop-item.invariant

pub pick_of-returns-in-Some : goal.pick_of-returns-in-Some
pick_of-returns-in-Some t c =
    subst (λ (p : Pick). IfOk c.text_pick.result (λ x. x ≡ p)) (picks.pick_text (star_of c.args.star) (view c.args.value.now) c.in-Some.text.now (sym c.as_str.ensures ∙ ap (option_map (λ (s : Bor (List ℕ)). s.now)) c.in-Some.is)) c.text_pick.ensures

pub pick_of-items_pick-requires : goal.pick_of-items_pick-requires
pick_of-items_pick-requires t c =
    let is : as_array (view c.args.value.now) ≡ Some (items_view c.as_slice.result.now) = sym c.as_array.ensures ∙ ap (option_map _) c.in-Some-as_array.is ∙ ap (λ (vs : List Value). Some (items_view vs)) (sym c.as_slice.ensures.value) in
    let lower = picks.items_lower (view c.args.value.now) (items_view c.as_slice.result.now) is in
    (omega (arith, lower), tt)

pub pick_of-returns-in-Some-as_array : goal.pick_of-returns-in-Some-as_array
pick_of-returns-in-Some-as_array t c =
    let is : as_array (view c.args.value.now) ≡ Some (items_view c.as_slice.result.now) = sym c.as_array.ensures ∙ ap (option_map _) c.in-Some-as_array.is ∙ ap (λ (vs : List Value). Some (items_view vs)) (sym c.as_slice.ensures.value) in
    subst (λ (p : Pick). IfOk c.items_pick.result (λ x. x ≡ p)) (picks.pick_items (star_of c.args.star) (view c.args.value.now) (items_view c.as_slice.result.now) is) c.items_pick.ensures

pub pick_of-returns-then-is_object : goal.pick_of-returns-then-is_object
pick_of-returns-then-is_object t c =
    subst (λ (p : Pick). IfOk c.conditions_pick.result (λ x. x ≡ p))
    (ap (conditions_pick (star_of c.args.star) (view c.args.value.now)) c.conditions.ensures ∙ picks.pick_object (star_of c.args.star) (view c.args.value.now) (sym c.is_object.ensures ∙ c.if-is_object.true)) c.conditions_pick.ensures

pub pick_of-returns : goal.pick_of-returns
pick_of-returns t c =
    picks.pick_other (star_of c.args.star) (view c.args.value.now) (sym c.as_str.ensures ∙ ap (option_map _) c.in_default.is)
    (sym c.as_array.ensures ∙ ap (option_map _) c.in_default-as_array.is) (sym c.is_object.ensures ∙ c.if-is_object.false)
