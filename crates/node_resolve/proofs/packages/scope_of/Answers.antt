use Rattle.std.proofs.Common.{◌≡◌, Option, Some, None, ap, sym, refl, ◌∙◌}
use Rattle.std.specs.Option.{option_map}
use Rattle.serde_json.specs.View.{view}
use Rattle.serde_json.specs.declared.value.Value.{Value}
use Rattle.node_resolve.specs.Targets.{is_modules}
use Rattle.node_resolve.proofs.Folders.{above_shorter}
use Rattle.node_resolve.proofs.Walking as walking
use Rattle.node_resolve.proofs.packages.scope_of.Goals as goal

none_left : (o : Option Value) → ((x : Value) → o ≡ Some x → ⊥) → option_map view o ≡ None
none_left None never = refl
none_left (Some x) never = absurd (never x refl)

pub returns-then-is_modules-clause-scope : goal.returns-then-is_modules-clause-scope
returns-then-is_modules-clause-scope g c =
    walking.scope_closed _ c.folders.at c.args.from.now (ap is_modules (sym c.as_str.ensures.text) ∙ sym c.if-is_modules.ensures) c.folders.invariant.left

pub returns-in-Some-clause-scope : goal.returns-in-Some-clause-scope
returns-in-Some-clause-scope g c =
    walking.scope_found _ _ c.folders.at c.args.from.now (view c.in-Some.manifest) (option_map view c.in_ok-manifest.field-0) (ap is_modules (sym c.as_str.ensures.text) ∙ sym c.if-is_modules.ensures)
    c.folders.invariant.same (ap (option_map view) c.in-Some.is) (c.in_ok-manifest.ensures {u = tt}).found c.folders.invariant.left

pub returns-in-None-clause-scope : goal.returns-in-None-clause-scope
returns-in-None-clause-scope g c =
    walking.scope_ended _ _ c.folders.at c.args.from.now (option_map view c.in_ok-manifest.field-0) (ap is_modules (sym c.as_str.ensures.text) ∙ sym c.if-is_modules.ensures)
    c.folders.invariant.same (none_left _ c.in_default.not-Some) (sym (c.in_ok-folder_above.ensures {u = tt}) ∙ c.in-None.is) (c.in_ok-manifest.ensures {u = tt}).found c.folders.invariant.left

pub folders-smaller : goal.folders-smaller
folders-smaller g c =
    above_shorter c.folders.at c.in-Some-2.above (sym (c.in_ok-folder_above.ensures {u = tt}) ∙ c.in-Some-2.is)

pub folders-preserved : goal.folders-preserved
folders-preserved g c = record {
  same = (c.in_ok-manifest.ensures {u = tt}).same ∙ c.folders.invariant.same;
  kept = (c.in_ok-manifest.ensures {u = tt}).cause.kept ∙ c.folders.invariant.kept;
  left = walking.scope_above _ _ c.folders.at c.args.from.now c.in-Some-2.above (option_map view c.in_ok-manifest.field-0) (ap is_modules (sym c.as_str.ensures.text) ∙ sym c.if-is_modules.ensures)
      c.folders.invariant.same (none_left _ c.in_default.not-Some) (sym (c.in_ok-folder_above.ensures {u = tt}) ∙ c.in-Some-2.is) (c.in_ok-manifest.ensures {u = tt}).found c.folders.invariant.left;
}
