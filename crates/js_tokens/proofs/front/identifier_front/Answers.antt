use Rattle.js_tokens.proofs.FrontLemmas.{none_of, no_identifier, reaches_identifier}
use Rattle.js_tokens.specs.declared.goal.Sort.TheVariants as sort
use Rattle.js_tree.specs.Lexical.{IsIdentifier}
use Rattle.js_tokens.proofs.front.identifier_front.Goals as goal

pub returns-then-len-eq0 : goal.returns-then-len-eq0
returns-then-len-eq0 c = (none_of IsIdentifier sort.Identifier c.args.text.now c.identifier_len-len.result c.identifier_len-len.ensures c.if-len-eq0.true no_identifier reaches_identifier, λ h. h)
