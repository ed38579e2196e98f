use Rattle.js_parser.proofs.WholeLemmas.{at_character, not_too_large, only_tree, placed, read_within, unspelled}
use Rattle.js_parser.proofs.whole.parse.Goals as goal

pub returns-in-Ok-clause-too_large : goal.returns-in-Ok-clause-too_large
returns-in-Ok-clause-too_large g c = read_within _ _ c.if-text-gt-LIMIT.false

pub returns-in-Err-clause-only : goal.returns-in-Err-clause-only
returns-in-Err-clause-only g c tree s = only_tree c.args.text.now _ _ c.fault_of.ensures.fault tree (c.in-Err.ensures.only tree s)

pub returns-in-Err-clause-too_large : goal.returns-in-Err-clause-too_large
returns-in-Err-clause-too_large g c = not_too_large c.args.text.now _ _ c.fault_of.ensures.fault c.if-text-gt-LIMIT.false

pub returns-in-Err-clause-placed : goal.returns-in-Err-clause-placed
returns-in-Err-clause-placed g c = placed c.args.text.now _ _ c.fault_of.ensures.fault c.in-Err.ensures.placed

pub returns-in-Err-clause-at_character : goal.returns-in-Err-clause-at_character
returns-in-Err-clause-at_character g c = at_character c.args.text.now _ _ c.fault_of.ensures.fault c.utf8.text c.in-Err.ensures.placed

pub returns-in-Err-clause-unspelled : goal.returns-in-Err-clause-unspelled
returns-in-Err-clause-unspelled g c = unspelled c.args.text.now _ _ c.fault_of.ensures.fault c.in-Err.ensures.only
