use Rattle.std.proofs.Common.{refl, subst, sym}
use Rattle.js_tree.specs.Parts.{ABody}
use Rattle.js_tree.specs.Tokens.{IsInText}
use Rattle.js_tree.proofs.TextLemmas.{spelled}
use Rattle.js_scopes.proofs.call_sites.sites_with.Goals as goal

pub walk_tree-requires : goal.walk_tree-requires
walk_tree-requires c κs = ((refl, tt), subst (λ body. IsInText (ABody body)) (sym c.as_slice.ensures) (spelled c.requires.spelled.0 c.args.tree.now c.requires.spelled.1))
