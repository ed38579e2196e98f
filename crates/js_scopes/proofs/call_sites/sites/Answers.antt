use Rattle.js_tree.proofs.TextLemmas.{spelled}
use Rattle.js_scopes.proofs.call_sites.sites.Goals as goal

pub inner_functions-requires : goal.inner_functions-requires
inner_functions-requires c = spelled c.requires.0 c.args.tree.now c.requires.1
