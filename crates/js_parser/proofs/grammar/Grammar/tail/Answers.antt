use Rattle.std.proofs.Common.{sym, ◌∙◌, true≢false}
use Rattle.js_tree.specs.declared.lists.Tail.TheVariants as tail
use Rattle.js_parser.proofs.PlaceLemmas.{passes_none}
use Rattle.js_parser.proofs.ReadLemmas.{want, failed}
use Rattle.js_parser.proofs.TailLemmas.{call_view, template_view}
use Rattle.js_parser.proofs.grammar.Grammar.tail.Goals as goal

pub returns-in_err-node-in-LeftParen-clause-reads : goal.returns-in_err-node-in-LeftParen-clause-reads
returns-in_err-node-in-LeftParen-clause-reads g c =
    failed _ _ _ _ _ _ _ _ (passes_none _) c.in_err-node-in-LeftParen.ensures.reads.moves
    (λ x rest r at s.
    let v = call_view _ _ _ c.kind.ensures c.in-LeftParen.is x rest at r in
    want _ _ _ (c.in_err-node-in-LeftParen.ensures.reads.only (record { node = v.args; height = x.height }) rest v.read v.at tt)) c.from_residual.ensures.1

pub returns-in_ok-node-in-LeftParen-clause-reads : goal.returns-in_ok-node-in-LeftParen-clause-reads
returns-in_ok-node-in-LeftParen-clause-reads g c =
    let w = c.in_ok-node-in-LeftParen.ensures.reads in
    record {
      found = (w.found.0, record { stands = w.found.1.each; height = w.found.1.height; fits = w.found.1.fits });
      only = λ x rest r at s.
          let v = call_view _ _ _ c.kind.ensures c.in-LeftParen.is x rest at r in
          let g0 = w.only (record { node = v.args; height = x.height }) rest v.read v.at tt in
          ((λ i. record { node = tail.Call (g0.0 i).node; height = (g0.0 i).height }) ∙ (λ i. record { node = sym v.node i; height = x.height }), g0.1);
      moves = w.moves;
      shorter = w.shorter;
    }

pub returns-in_err-node-in_default-clause-reads : goal.returns-in_err-node-in_default-clause-reads
returns-in_err-node-in_default-clause-reads g c =
    failed _ _ _ _ _ _ _ _ (passes_none _) c.in_err-node-in_default.ensures.reads.moves
    (λ x rest r at s.
    let v = template_view _ _ _ c.kind.ensures c.in_default.not-Dot c.in_default.not-LeftBracket c.in_default.not-LeftParen x rest at r in
    want _ _ _ (c.in_err-node-in_default.ensures.reads.only (record { node = v.inner; height = x.height }) rest v.read v.at tt)) c.from_residual-in_err-node-in_default.ensures.1

pub returns-in_ok-node-in_default-clause-reads : goal.returns-in_ok-node-in_default-clause-reads
returns-in_ok-node-in_default-clause-reads g c =
    let w = c.in_ok-node-in_default.ensures.reads in
    record {
      found = (w.found.0, record { stands = w.found.1.each; height = w.found.1.height; fits = w.found.1.fits });
      only = λ x rest r at s.
          let v = template_view _ _ _ c.kind.ensures c.in_default.not-Dot c.in_default.not-LeftBracket c.in_default.not-LeftParen x rest at r in
          let g0 = w.only (record { node = v.inner; height = x.height }) rest v.read v.at tt in
          ((λ i. record { node = tail.Template (g0.0 i).node; height = (g0.0 i).height }) ∙ (λ i. record { node = sym v.node i; height = x.height }), g0.1);
      moves = w.moves;
      shorter = w.shorter;
    }

pub returns-in_ok-node-in_default-clause-call : goal.returns-in_ok-node-in_default-clause-call
returns-in_ok-node-in_default-clause-call g c = λ e. absurd (true≢false (sym e))
