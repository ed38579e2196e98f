use Rattle.std.proofs.Common.{sym, ◌∙◌}
use Rattle.js_parser.proofs.TailLemmas.{eval_by_kind}
use Rattle.js_parser.proofs.tails.is_eval.Goals as goal

pub returns : goal.returns
returns c = c.is_eval_name.ensures ∙ sym (eval_by_kind c.args.head.now)
