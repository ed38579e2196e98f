use Rattle.js_tokens.proofs.MarkLemmas.{one_place}
use Rattle.js_tokens.proofs.kinds.place_of_mark.Goals as goal

pub returns : goal.returns
returns c = one_place c.args.text.now c.mark_len.result c.requires c.mark_len.ensures.reached c.mark_len.ensures.placed
