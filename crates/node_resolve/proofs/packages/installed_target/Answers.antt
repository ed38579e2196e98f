use Rattle.std.proofs.Common.{sym, ◌∙◌}
use Rattle.node_resolve.proofs.Folders.{above_shorter}
use Rattle.node_resolve.proofs.Walking as walking
use Rattle.node_resolve.proofs.packages.installed_target.Goals as goal

pub returns-in-Some-clause-target : goal.returns-in-Some-clause-target
returns-in-Some-clause-target g c =
    walking.installed_found _ _ c.args.bare.now c.folders.at c.args.from.now c.in-Some.target c.in_ok-target.field-0 c.folders.invariant.same c.in-Some.is (c.in_ok-target.ensures {u = tt}).target c.folders.invariant.left

pub returns-in-None-clause-target : goal.returns-in-None-clause-target
returns-in-None-clause-target g c =
    walking.installed_ended _ _ c.args.bare.now c.folders.at c.args.from.now c.in_ok-target.field-0 c.folders.invariant.same c.in_default.is (sym (c.in_ok-folder_above.ensures {u = tt}) ∙ c.in-None.is) (c.in_ok-target.ensures {u = tt}).target c.folders.invariant.left

pub folders-smaller : goal.folders-smaller
folders-smaller g c =
    above_shorter c.folders.at c.in-Some-2.above (sym (c.in_ok-folder_above.ensures {u = tt}) ∙ c.in-Some-2.is)

pub folders-preserved : goal.folders-preserved
folders-preserved g c = record {
  same = (c.in_ok-target.ensures {u = tt}).same ∙ c.folders.invariant.same;
  kept = (c.in_ok-target.ensures {u = tt}).cause.kept ∙ c.folders.invariant.kept;
  left = walking.installed_above _ _ c.args.bare.now c.folders.at c.args.from.now c.in-Some-2.above c.in_ok-target.field-0 c.folders.invariant.same c.in_default.is (sym (c.in_ok-folder_above.ensures {u = tt}) ∙ c.in-Some-2.is) (c.in_ok-target.ensures {u = tt}).target c.folders.invariant.left;
}
