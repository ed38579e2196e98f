use Rattle.std.proofs.Common.{[], ◌∷◌}
use Rattle.composer.specs.Parts.{lists_of}
use Rattle.composer.proofs.LinkLemmas.{alone_by_path, no_links}
use Rattle.graph_tests.proofs.composer_tests.graph_of.Goals as goal

pub compose-requires-clause-paths : goal.compose-requires-clause-paths
compose-requires-clause-paths g c = alone_by_path c.args.part

pub compose-requires-clause-links : goal.compose-requires-clause-links
compose-requires-clause-links g c = no_links (lists_of (c.args.part ∷ []))
