use Rattle.std.proofs.Common.{◌-◌, not, refl, sym, ap, ◌∙◌, subst, arith}
use Rattle.js_tree.specs.declared.tree.Expr.TheOpen.{Expr-F}
use Rattle.js_tree.specs.declared.tree.Expr.TheVariants.{rolls-Postfix}
use Rattle.js_tree.specs.declared.tree.Expr.{roll-Expr}
use Rattle.js_parser.proofs.ExprLemmas.{made, node_of}
use Rattle.js_parser.proofs.FormLemmas.{no_target, no_update, place_of, postfix_view, updated}
use Rattle.js_parser.proofs.LeadLemmas.{first_fails, first_read, stays_read}
use Rattle.js_parser.proofs.ListedLemmas.{is_false, is_true}
use Rattle.js_parser.proofs.MadeLemmas.{seen_at, read_at}
use Rattle.js_parser.proofs.PlaceLemmas.{passes_none, passes_on}
use Rattle.js_parser.proofs.ReadLemmas.{want, failed}
use Rattle.js_parser.proofs.StrengthLemmas.{plain_update, updates}
use Rattle.js_parser.specs.Following.{IsStrength}
use Rattle.js_parser.proofs.grammar.Grammar.postfix.Goals as goal

pub returns-in_err-first : goal.returns-in_err-first
returns-in_err-first g c = record {
  reads = failed _ _ _ _ _ _ _ _ (passes_none _) c.in_err-first.ensures.reads.moves
      (λ x rest r at s. first_fails _ _ _ x rest (postfix_view _ _ x rest r at s) _ _ c.in_err-first.ensures.reads) c.from_residual.ensures.1;
}

pub returns-then-not-first : goal.returns-then-not-first
returns-then-not-first g c = record {
  reads = stays_read 17 16 _ _ _ _ (omega arith) c.in_ok-first.ensures.reads (λ x rest r at s. postfix_view _ _ x rest r at s)
      (λ x behind rest a at s r. no_target _ x behind rest _ a (sym c.in_ok-first.ensures.reads.found.1.target ∙ is_false _ c.if-not-first.true) r);
}

pub returns-then-next_strength-ne17 : goal.returns-then-next_strength-ne17
returns-then-next_strength-ne17 g c = record {
  reads = stays_read 17 16 _ _ _ _ (omega arith) c.in_ok-first.ensures.reads (λ x rest r at s. postfix_view _ _ x rest r at s)
      (λ x behind rest a at s r. no_update _ x behind rest _ _ a c.next_strength.ensures c.if-next_strength-ne17.true r);
}

pub returns-in_err-op : goal.returns-in_err-op
returns-in_err-op g c =
    let strength : IsStrength c.chain.new.reader 17 = subst (IsStrength c.chain.new.reader) c.if-next_strength-ne17.false c.next_strength.ensures in
    record {
      reads = failed _ _ _ _ _ _ _ _ c.in_ok-first.ensures.reads.moves c.in_err-op.ensures.moves
          (λ x rest r at s.
          let f = first_read _ _ _ x rest (postfix_view _ _ x rest r at s) _ _ c.in_ok-first.ensures.reads in
          let w = updated _ x f.0 rest _ f.1 strength s f.2 in
          want _ _ _ (c.in_err-op.ensures.only _ plain_update w.op rest w.read tt tt)) c.from_residual-in_err-op.ensures.1;
    }

pub value-requires : goal.value-requires
value-requires g c =
    let w = c.in_ok-first.ensures.reads.found.1 in
    record { seen = seen_at (Expr-F.Postfix c.in_ok-first.first.node c.in_ok-op.op) _ (rolls-Postfix c.in_ok-first.first.node c.in_ok-op.op) _ 16 _ refl refl refl (omega (arith, w.height)) }

pub returns : goal.returns
returns g c =
    let strength : IsStrength c.chain.new.reader 17 = subst (IsStrength c.chain.new.reader) c.if-next_strength-ne17.false c.next_strength.ensures in
    let op = c.in_ok-op.ensures.found in
    let up = updates _ _ (strength.all _ _ op.0 op.1) in
    let w = c.in_ok-first.ensures.reads.found.1 in
    record {
      reads = made 16 _ 16 _ _ _ _ c.value.ensures.made (omega arith)
          (read_at (Expr-F.Postfix c.in_ok-first.first.node c.in_ok-op.op) _ (rolls-Postfix c.in_ok-first.first.node c.in_ok-op.op) _ _
          (λ rest r. (place_of _ _ _ w (is_true _ c.if-not-first.false), c.in_ok-first.ensures.reads.found.0 _ (ap not up.1, (_, op.0, up.0, r)))))
          (passes_on _ _ _ c.in_ok-first.ensures.reads.moves c.in_ok-op.ensures.moves)
          (omega (arith, c.in_ok-first.ensures.reads.shorter, c.in_ok-op.ensures.shorter))
          (λ x rest r at s.
          let f = first_read _ _ _ x rest (postfix_view _ _ x rest r at s) _ _ c.in_ok-first.ensures.reads in
          let w = updated _ x f.0 rest _ f.1 strength s f.2 in
          let g0 = c.in_ok-op.ensures.only _ plain_update w.op rest w.read tt tt in
          (sym (rolls-Postfix c.in_ok-first.first.node c.in_ok-op.op) ∙ (λ i. roll-Expr (Expr-F.Postfix c.in_ok-first.first.node (g0.0 i))) ∙ node_of x.node (Expr-F.Postfix c.in_ok-first.first.node w.op) w.is, g0.1));
    }
