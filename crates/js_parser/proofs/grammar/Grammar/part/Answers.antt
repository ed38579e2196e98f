use Rattle.std.proofs.Common.{sym, ◌∙◌}
use Rattle.js_tree.specs.Pieces.{kind}
use Rattle.js_parser.proofs.TemplateLemmas.{no_part, part_ok, part_read}
use Rattle.js_parser.proofs.grammar.Grammar.part.Goals as goal

pub returns-then-not-are_same-clause-only : goal.returns-then-not-are_same-clause-only
returns-then-not-are_same-clause-only g c = λ test part t rest r any anywhere. absurd (no_part _ _ t _ c.kind.ensures (sym c.are_same.ensures ∙ c.if-not-are_same.true) r.1 (part (kind t) r.2))

pub returns-clause-found : goal.returns-clause-found
returns-clause-found g c = part_ok _ _ _ c.take.result c.kind.ensures (sym c.are_same.ensures ∙ c.if-not-are_same.false) c.take.ensures.found

pub returns-clause-only : goal.returns-clause-only
returns-clause-only g c = λ test part. c.take.ensures.only test (λ k e. part_read k (part k e))
