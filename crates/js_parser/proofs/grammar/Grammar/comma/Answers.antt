use Rattle.std.proofs.Common.{inl, refl}
use Rattle.js_parser.proofs.JoinLemmas.{joined_read, joined_view}
use Rattle.js_parser.proofs.LeadLemmas.{first_fails}
use Rattle.js_parser.proofs.PlaceLemmas.{passes_none}
use Rattle.js_parser.proofs.ReadLemmas.{failed}
use Rattle.js_parser.proofs.grammar.Grammar.comma.Goals as goal

pub returns-in_err-first : goal.returns-in_err-first
returns-in_err-first g c = record {
  reads = failed _ _ _ _ _ _ _ _ (passes_none _) c.in_err-first.ensures.reads.moves
      (λ x rest r at s. first_fails _ _ _ x rest (joined_view 0 _ (inl refl) _ x rest r at s) _ _ c.in_err-first.ensures.reads) c.from_residual.ensures.1;
}

pub joined-requires : goal.joined-requires
joined-requires g c = record { knot = c.requires.knot; some = c.requires.some; rank = inl refl; first = c.in_ok-first.ensures.reads.found.1 }

pub returns : goal.returns
returns g c = record { reads = joined_read 0 _ (inl refl) _ _ _ _ _ c.in_ok-first.ensures.reads c.joined.ensures.reads }
