use Rattle.node_resolve.proofs.Manifests.{manifest_read}
use Rattle.node_resolve.proofs.manifest.manifest_at.Goals as goal

pub returns-clause-found : goal.returns-clause-found
returns-clause-found g c = manifest_read _ c.args.at.now _ _ _ c.in_ok-path.ensures c.in_ok-bytes.ensures.found (c.in_ok-object_in.ensures {u = tt})
