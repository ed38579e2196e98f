use Rattle.std.proofs.Common.{◌≡◌, drop, IfSome}
use Rattle.std.proofs.Common.{map as each}
use Rattle.node_resolve.specs.Finding as finding
use Rattle.node_resolve.proofs.search.first_file.Given as goal

-- no call failed, and the ends that are left find what all of them find
abbrev pub invariant-loop-end : goal.invariant-loop-end
invariant-loop-end g l =
    let files = g.F.Folder.files in
    let faults = g.F.Folder.faults in
    record {
      same : files l.folder ≡ files l.fn.folder;
      kept : faults l.folder ≡ faults l.fn.folder;
      left : IfSome (files l.fn.folder) (λ m. finding.first_file m l.path (drop l.end-index (each (λ e. e.now) l.ends)) ≡ finding.first_file m l.path (each (λ e. e.now) l.ends));
    }
