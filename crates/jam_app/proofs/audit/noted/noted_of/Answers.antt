use Rattle.std.proofs.Common.{◌≡◌, ◌++◌, List, [], length, map, ap, ◌∙◌}
use Rattle.std.proofs.lemmas.Result.{IfOk-weaker}
use Rattle.jam_base.specs.Ascending.{ascending}
use Rattle.flow_rules.specs.declared.module.ModuleNote.{ModuleNote}
use Rattle.jam_app.specs.declared.audit.noted.Noted.{Noted}
use Rattle.jam_app.specs.declared.loading.loaded.Missing.{Missing}
use Rattle.jam_app.specs.Notes.{all_noted, lock_noted, missing_noted, noted_order, own_noted, skip_noted}
use Rattle.jam_app.proofs.audit.noted.noted_of.Goals as goal

pub returns : goal.returns
returns c =
    let one = c.args.one.now in
    let owned = c.args.owned in
    let first : c.push_unowned.new.made.items ≡ lock_noted owned = c.in_ok-push_unowned.ensures ∙ ap (λ (xs : List Noted). xs ++ lock_noted owned) c.new-made.ensures.items in
    let own : map own_noted c.notes.result.now ≡ map own_noted one.summary.lists.notes = ap (map own_noted) c.notes.ensures in
    let missing : map missing_noted c.as_slice.result.now ≡ map missing_noted one.missing.items = ap (map missing_noted) c.as_slice.ensures.value in
    let all : c.push_skipped.new.made.items ≡ all_noted owned one
    = c.in_ok-push_skipped.ensures
    ∙ (λ i. (c.in_ok-push_missing.ensures ∙ (λ j. (c.in_ok-push_own.ensures ∙ (λ k. first k ++ own k)) j ++ missing j)) i ++ skip_noted one.skipped (ap length c.as_str.ensures i)) in
    IfOk-weaker c.ascending.result _ _ (λ made e. e ∙ ap (ascending noted_order) all) c.ascending.ensures
