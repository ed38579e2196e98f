use Rattle.std.proofs.Common.{sym, ap, ◌∙◌}
use Rattle.js_tree.specs.Spelling.Nodes.{admits as takes}
use Rattle.js_tree.proofs.LevelLemmas.{rank_by_kind}
use Rattle.js_tree.proofs.level.admits.Goals as goal

pub returns : goal.returns
returns c = c.reaches.ensures ∙ ap (takes c.args.level) c.rank.ensures ∙ sym (rank_by_kind c.args.level c.args.expr.now)
