use Rattle.std.proofs.Common.{◌≡◌, ◌∙◌, Bool, List, Some, get_or, ap, subst, sym}
use Rattle.std.specs.Prelude.{slice_get}
use Rattle.std.specs.Option.{is_some}
use Rattle.std.proofs.lemmas.Option.{get_or_from_slice_get}
use Rattle.lock_reader.specs.Owner.{IsOwner}
use Rattle.jam_base.specs.declared.edge.FunctionRef.{FunctionRef}
use Rattle.lock_reader.specs.declared.lock.LockEntry.{LockEntry}
use Rattle.reach_path.specs.Reached.{path_to}
use Rattle.alarms.specs.Affected.{inside}
use Rattle.alarms.proofs.SearchLemmas.{module_added}
use Rattle.alarms.proofs.search.push_module.Goals as goal

pub returns : goal.returns
returns c = λ parts part_at.
    let reached : FunctionRef → Bool = λ f. is_some (path_to c.args.reach.now f) in
    let entries = c.args.lock.now.entries in
    let path = c.args.part.now.path in
    let owner = c.in-Some.ensures in
    let item = c.index-as_slice-place.result in
    let item_is : item ≡ owner.0 = c.index-as_slice-place.is ∙ ap (λ (es : List LockEntry). get_or es c.in-Some.place item) c.as_slice.ensures ∙ get_or_from_slice_get entries c.in-Some.place owner.0 item owner.1 in
    let entry_at : slice_get entries c.in_ok-number.field-0 ≡ Some item = ap (slice_get entries) c.in_ok-number.ensures ∙ owner.1 ∙ ap Some (sym item_is) in
    let is_owner : IsOwner entries path (Some item) = subst (λ (e : LockEntry). IsOwner entries path (Some e)) (sym item_is) owner.2 in
    module_added entries c.args.advisories.now parts reached c.args.part.now _ c.requires.ascending part_at entry_at is_owner (c.inside.ensures ∙ (λ i. inside (c.as_str.ensures i) (c.as_str-2.ensures.text i))) c.functions.ensures.functions _ _ c.in_ok-push_all.ensures
