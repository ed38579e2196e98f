use Rattle.std.proofs.Common.{sym, ◌∙◌, arith}
use Rattle.js_parser.proofs.BeginLemmas.{stops_higher}
use Rattle.js_parser.proofs.FormLemmas.{without_operator}
use Rattle.js_parser.proofs.LeadLemmas.{from_higher}
use Rattle.js_parser.proofs.grammar.Grammar.unary.Goals as goal

pub operation-requires : goal.operation-requires
operation-requires g c = record { told = (_, c.kind.ensures, sym c.is_unary.ensures ∙ c.if-is_unary.true); knot = c.requires.knot; some = c.requires.some }

pub returns-else-is_unary : goal.returns-else-is_unary
returns-else-is_unary g c = record {
  reads = from_higher 14 16 _ _ _ _ (omega arith)
      (λ x rest r at s. (without_operator _ _ x rest _ c.kind.ensures (sym c.is_unary.ensures ∙ c.if-is_unary.false) r at, stops_higher 14 16 rest (omega arith) s)) c.postfix.ensures.reads;
}
