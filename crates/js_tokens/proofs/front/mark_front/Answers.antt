use Rattle.std.proofs.Common.{refl, arith}
use Rattle.js_tokens.proofs.FrontLemmas.{mark_none, mark_stands}
use Rattle.js_tokens.proofs.front.mark_front.Goals as goal

pub returns-then-len-eq0 : goal.returns-then-len-eq0
returns-then-len-eq0 c = (mark_none c.args.bytes.now c.mark_len-len.result.len c.mark_len-len.ensures.reached c.if-len-eq0.true, λ h. h)

pub returns : goal.returns
returns c = (refl, mark_stands c.args.bytes.now c.mark_len-len.result c.mark_len-len.ensures.reached c.mark_len-len.ensures.placed (omega arith) c.requires)
