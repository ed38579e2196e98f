use Rattle.std.proofs.Common.{◌≡◌, length, IfSome}
use Rattle.node_resolve.specs.Targets as targets
use Rattle.node_resolve.proofs.packages.installed_target.Given as goal

-- no call failed, and the folders from here on have what all of them have
abbrev pub invariant-folders : goal.invariant-folders
invariant-folders g l =
    let files = g.F.Folder.files in
    let faults = g.F.Folder.faults in
    record {
      same : files l.folder ≡ files l.fn.folder;
      kept : faults l.folder ≡ faults l.fn.folder;
      left : IfSome (files l.fn.folder) (λ m. targets.installed_target m l.bare (targets.upward l.at) ≡ targets.installed_target m l.bare (targets.upward l.from));
    }

abbrev pub decreases-folders : goal.decreases-folders
decreases-folders g l = length l.at
