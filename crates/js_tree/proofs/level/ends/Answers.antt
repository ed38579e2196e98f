use Rattle.std.proofs.Common.{sym, ap, ◌∙◌}
use Rattle.js_tree.specs.Spelling.Chains.{is_member}
use Rattle.js_tree.proofs.LevelLemmas.{ends_next}
use Rattle.js_tree.proofs.level.ends.Goals as goal

pub loop-tail-preserved : goal.loop-tail-preserved
loop-tail-preserved c = c.is_member-last.ensures ∙ ap is_member c.tail-item.is ∙ sym (ends_next c.args.tails.now c.loop-tail.tail-index c.tail-item.result c.loop-tail-test.true)
