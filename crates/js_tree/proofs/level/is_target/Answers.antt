use Rattle.std.proofs.Common.{sym, ◌∙◌}
use Rattle.js_tree.proofs.LevelLemmas.{target_by_kind}
use Rattle.js_tree.proofs.level.is_target.Goals as goal

pub returns : goal.returns
returns c = c.is_place.ensures ∙ sym (target_by_kind c.args.expr.now)
