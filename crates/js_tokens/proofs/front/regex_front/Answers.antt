use Rattle.std.proofs.Common.{refl}
use Rattle.js_tokens.proofs.FrontLemmas.{nowhere, no_regex}
use Rattle.js_tree.specs.Lexical.{IsRegex}
use Rattle.js_tokens.proofs.front.regex_front.Goals as goal

pub returns-then-len-eq0 : goal.returns-then-len-eq0
returns-then-len-eq0 c = (refl, λ n le h. nowhere IsRegex c.args.text.now c.regex_len-len.result c.regex_len-len.ensures c.if-len-eq0.true no_regex n le h)
